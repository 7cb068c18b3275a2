-- `soft::traceback` meets its contract: the bits of the steps passed, read from the end. Assumes nothing.
use Rattle.std.proofs.Common.{◌-◌, ap, arith}
use Rattle.soft.specs.Step.{rows_at}
use Rattle.soft.proofs.Tracing.{tracing_more, tracing_done}
use Rattle.soft.proofs.traceback.Goals as goal

pub loop-step-preserved : goal.loop-step-preserved
loop-step-preserved c = tracing_more _ _ _ _ _ _ c.loop-step.invariant (omega arith) (ap (rows_at c.args.predecessors.now (c.loop-step.step - 1)) c.from.ensures) c.requires.by_index

pub returns : goal.returns
returns c = tracing_done _ _ _ _ _ c.loop-step.invariant (omega arith)
