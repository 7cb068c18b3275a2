-- `soft::traceback` meets its contract: the bits of the steps passed, read from the end. Assumes nothing.
use Rattle.soft.specs.Step.{rows_at}
use Rattle.soft.proofs.Tracing.{Tracing}
use Rattle.soft.proofs.traceback.Given as goal

abbrev pub invariant-loop-step : goal.invariant-loop-step
invariant-loop-step l = Tracing (rows_at l.predecessors) l.initial.word l.word l.state l.step
