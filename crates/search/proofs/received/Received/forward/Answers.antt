-- `search::Received::forward` meets its contract: after each step the metrics and the predecessor bytes are those of the recursion. Assumes nothing.
use Rattle.std.proofs.Common.{arith}
use Rattle.search.proofs.Running.{running_none, running_more, fit}
use Rattle.search.proofs.received.Received.forward.Goals as goal

pub loop-step-init : goal.loop-step-init
loop-step-init c = (omega arith, running_none _ _ _)

pub advance-column-requires : goal.advance-column-requires
advance-column-requires c =
    let received = c.args.self in
    let at = c.loop-step in
    fit received.rows.now received.symbols.now c.args.start at.step c.from.result c.from.ensures
    at.metrics received.small c.requires.1 (omega (arith, received.short)) (omega arith) at.invariant.1.metrics

pub loop-step-preserved : goal.loop-step-preserved
loop-step-preserved c = (
  omega arith,
  running_more _ _ _ _ _ c.from.ensures _ _ _ c.advance-column.result c.loop-step.invariant.1 (omega arith) c.advance-column.ensures,
)
