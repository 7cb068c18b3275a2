-- `soft::forward` meets its contract: after each step the path metrics are those of the recursion, and the rows the Rust's. Assumes nothing.
use Rattle.soft.proofs.Running.{Running}
use Rattle.soft.proofs.forward.Given as goal

abbrev pub invariant-loop-step : goal.invariant-loop-step
invariant-loop-step l = Running l.values l.steps l.metrics l.predecessors l.step
