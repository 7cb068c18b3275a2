-- `search::row::distances` meets its contract: the sums passed are made wider. Assumes nothing.
use Rattle.std.proofs.Common.{◌≡◌}
use Rattle.bits.proofs.Filled.{Filling}
use Rattle.search.specs.Row.{distance_at}
use Rattle.search.proofs.row.distances.Given as goal

abbrev pub invariant-loop-place : goal.invariant-loop-place
invariant-loop-place g l = Filling (λ i x. x ≡ distance_at l.outputs l.received i) 0 64 l.row l.place
