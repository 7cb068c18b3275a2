-- `bits::observed::count_observed` meets its contract: so many of the bytes passed are observed. Assumes nothing.
use Rattle.bits.proofs.Erased.{Observing}
use Rattle.bits.proofs.observed.count_observed.Given as goal

abbrev pub invariant-loop-x : goal.invariant-loop-x
invariant-loop-x l = Observing l.s l.n l.x-index
