-- `soft::step::select` meets its contract: the butterflies passed fill two states each. Assumes nothing.
use Rattle.soft.proofs.Butterflies.{Filled}
use Rattle.soft.proofs.step.select.Given as goal

abbrev pub invariant-loop-n : goal.invariant-loop-n
invariant-loop-n l = Filled l.metrics l.zeros l.ones l.next l.predecessors l.n
