-- `tailbiting::starts::Starts::new` meets its contract: a path from a given start costs no less than one from any. Assumes nothing.
use Rattle.std.proofs.Common.{arith}
use Rattle.tailbiting.proofs.Tries.{starts_low, bounded}
use Rattle.tailbiting.proofs.starts.Starts.new.Goals as goal

pub forward-bounds-requires : goal.forward-bounds-requires
forward-bounds-requires c = (omega arith, starts_low _ (omega arith))

pub invariant_of-result : goal.invariant_of-result
invariant_of-result c = record { steps = c.requires; bounded = bounded _ _ _ _ _ c.forward-bounds.ensures c.requires; low = c.lowest-first.ensures }
