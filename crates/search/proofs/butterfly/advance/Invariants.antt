-- `search::butterfly::advance` meets its contract: the butterflies passed fill two states each. Assumes nothing.
use Rattle.search.proofs.Butterflies.{Filled}
use Rattle.search.proofs.butterfly.advance.Given as goal

abbrev pub invariant-loop-n : goal.invariant-loop-n
invariant-loop-n l = Filled l.metrics l.row l.next l.predecessors l.n
