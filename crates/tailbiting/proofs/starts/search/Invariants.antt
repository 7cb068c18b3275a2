-- `tailbiting::starts::search` meets its contract: after each turn the best of the starts tried is kept. Assumes nothing.
use Prim.Native.Nat.{◌≤◌}
use Rattle.search.specs.Forward.{branch_by}
use Rattle.trellis.specs.Search.{Found}
use Rattle.tailbiting.specs.Starts.{Tried, tail_metric}
use Rattle.tailbiting.proofs.starts.search.Given as goal

abbrev pub invariant-loop-turn : goal.invariant-loop-turn
invariant-loop-turn l = (l.turn ≤ 32) × Found (Tried l.starts.first l.turn) (tail_metric (branch_by l.received.rows.now l.received.symbols.now)) l.inputs l.best
