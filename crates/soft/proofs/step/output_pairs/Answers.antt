-- `soft::step::output_pairs` meets its contract: the places passed hold the output pairs. Assumes nothing.
use Rattle.std.proofs.Common.{arith}
use Rattle.bits.proofs.Filled.{filling_more}
use Rattle.soft.proofs.Costs.{output_number_lem}
use Rattle.soft.proofs.step.output_pairs.Goals as goal

pub loop-n-preserved : goal.loop-n-preserved
loop-n-preserved c = rw c.from.ensures (filling_more c.loop-n.invariant _ (omega arith) (output_number_lem c.loop-n.n c.transition.ensures))
