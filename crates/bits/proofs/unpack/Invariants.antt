-- `bits::unpack` meets its contract: the places from `i` on hold the lowest bits. Assumes nothing.
use Rattle.bits.proofs.Packed.{Unpacking}
use Rattle.bits.proofs.unpack.Given as goal

abbrev pub invariant-loop-i : goal.invariant-loop-i
invariant-loop-i l = Unpacking l.value l.initial.s l.s l.rest l.i

abbrev pub decreases-loop-i : goal.decreases-loop-i
decreases-loop-i l = l.i
