-- `bits::places::pack_at` meets its contract: the bits of what is taken are taken of the bits. Assumes nothing.
use mathlib.Core.Path.{ap, ◌∙◌}
use Rattle.bits.specs.Bits.{bits}
use Rattle.bits.specs.Numbers.{packed}
use Rattle.bits.proofs.PlacesMoved.{bits-taken}
use Rattle.bits.proofs.places.pack_at.Goals as goal

pub returns : goal.returns
returns g c = c.pack.ensures ∙ ap packed (ap bits c.gather.ensures ∙ bits-taken c.args.places.now c.args.from.now)
