-- `soft::start_metrics` meets its contract: the bits of zero and of infinity. Assumes nothing.
use Rattle.std.proofs.Common.{refl}
use Rattle.std.specs.Float.Ieee.{of_bits}
use Rattle.soft.proofs.start_metrics.Goals as goal

pub returns : goal.returns
unfolding of_bits
returns c = refl
