-- `search::Received::forward` meets its contract: after each step the metrics and the predecessor bytes are those of the recursion. Assumes nothing.
use Prim.Native.Nat.{◌≤◌}
use lib.ListN.{length}
use Rattle.search.specs.Forward.{branch_by}
use Rattle.search.proofs.Running.{Running}
use Rattle.search.proofs.received.Received.forward.Given as goal

abbrev pub invariant-loop-step : goal.invariant-loop-step
invariant-loop-step l = (l.step ≤ length l.self.symbols.now) × Running (branch_by l.self.rows.now l.self.symbols.now) l.initial.metrics l.initial.predecessors l.predecessors l.metrics l.step
