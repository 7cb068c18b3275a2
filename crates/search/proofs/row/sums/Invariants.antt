-- `search::row::sums` meets its contract: the generators passed are counted. Assumes nothing.
use lib.ListN.{length}
use Rattle.search.proofs.Distances.{Counting}
use Rattle.search.proofs.row.sums.Given as goal

abbrev pub invariant-loop-output : goal.invariant-loop-output
invariant-loop-output g l = Counting l.outputs l.received l.sums (length l.yielded)
