-- `search::row::add_differences` meets its contract: the places passed have their sums. Assumes nothing.
use Rattle.search.proofs.Distances.{Adding}
use Rattle.search.proofs.row.add_differences.Given as goal

abbrev pub invariant-loop-place : goal.invariant-loop-place
invariant-loop-place l = Adding l.output l.received l.initial.sums l.sums l.place
