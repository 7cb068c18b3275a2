-- `bits::places::scatter` meets its contract: the bytes passed are at their places. Assumes nothing.
use lib.ListN.{length}
use Rattle.bits.proofs.PlacesMoved.{Putting}
use Rattle.bits.proofs.places.scatter.Given as goal

abbrev pub invariant-loop-place : goal.invariant-loop-place
invariant-loop-place l = Putting l.places l.from l.initial.to l.to (length l.yielded)
