-- `tailbiting::rows::fill_rows` meets its contract: the rows passed are those of their steps. Assumes nothing.
use Rattle.std.proofs.Common.{arith}
use Rattle.bits.proofs.Filled.{filling_more}
use Rattle.tailbiting.proofs.Branches.{row_of}
use Rattle.tailbiting.proofs.rows.fill_rows.Goals as goal

pub loop-step-preserved : goal.loop-step-preserved
loop-step-preserved c = filling_more c.loop-step.invariant _ (omega arith) (row_of _ c.args.received.now c.loop-step.step _ c.outputs-outputs.ensures c.distances.ensures)
