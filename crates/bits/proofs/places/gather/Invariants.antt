-- `bits::places::gather` meets its contract: the bytes passed are taken. Assumes nothing.
use Rattle.bits.proofs.PlacesMoved.{Gathering}
use Rattle.bits.proofs.places.gather.Given as goal

abbrev pub invariant-loop-i : goal.invariant-loop-i
invariant-loop-i l = Gathering l.places l.from l.to l.i
