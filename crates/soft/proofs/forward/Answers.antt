-- `soft::forward` meets its contract: after each step the path metrics are those of the recursion, and the rows the Rust's. Assumes nothing.
use Rattle.std.proofs.Common.{arith, refl}
use Rattle.soft.proofs.Running.{running_none, running_more}
use Rattle.soft.proofs.forward.Goals as goal

pub loop-step-init : goal.loop-step-init
loop-step-init c = running_none _ _ _ _ c.start_metrics-metrics.ensures refl

pub loop-step-preserved : goal.loop-step-preserved
loop-step-preserved c =
    running_more c.loop-step.invariant (omega arith) (omega arith) (omega arith) c.requires.1 c.branch_metrics-branch.result c.branch_metrics-branch.ensures
    c.advance-column.result c.advance-column.ensures
