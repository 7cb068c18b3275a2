-- `search::traceback::traceback`: the bits and the tie of the steps passed, read from the end. Assumes nothing.
use Rattle.search.proofs.Tracing.{Tracing}
use Rattle.search.proofs.traceback.traceback.Given as goal

abbrev pub invariant-loop-step : goal.invariant-loop-step
invariant-loop-step l = Tracing l.predecessors l.since l.end l.initial.bits l.bits l.state l.step l.tie
