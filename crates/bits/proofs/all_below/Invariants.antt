-- What `bits::all_below` has passed is tested. Assumes nothing.
use Rattle.std.proofs.Common.{◌≡◌, take}
use Rattle.bits.specs.Bits.{all_less}
use Rattle.bits.proofs.all_below.Given as goal

abbrev pub invariant-loop-x : goal.invariant-loop-x
invariant-loop-x g l = l.passed ≡ all_less g.T.PartialOrd.partial_cmp l.limit (take l.x-index l.s)
