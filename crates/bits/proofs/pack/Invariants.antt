-- `bits::pack` meets its contract: the value is the number that the bits passed write. Assumes nothing.
use Rattle.bits.proofs.Packed.{Packing}
use Rattle.bits.proofs.pack.Given as goal

abbrev pub invariant-loop-b : goal.invariant-loop-b
invariant-loop-b l = Packing l.s l.value l.b-index
