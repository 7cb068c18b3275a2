-- `search::traceback::traceback` meets its contract: the bits and the tie of the steps passed, read from the end. Assumes nothing.
use Rattle.std.proofs.Common.{◌≡◌, ◌%◌, arith, rules}
use Rattle.search.proofs.Tracing.{tracing_more, tracing_done}
use Rattle.search.proofs.traceback.traceback.Goals as goal

pub loop-step-preserved : goal.loop-step-preserved
loop-step-preserved c =
    let bit : c.from.result ≡ c.loop-step.state % 2 = search rules in rw bit (tracing_more _ _ _ _ c.loop-step.invariant (omega arith) c.from-state.ensures)

pub returns : goal.returns
returns c = tracing_done _ _ _ _ _ _ _ _ c.loop-step.invariant (omega arith)
