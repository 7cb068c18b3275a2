-- `viterbi::pair_rows` meets its contract: the rows passed are those of their pairs. Assumes nothing.
use Rattle.std.proofs.Common.{arith}
use Rattle.bits.proofs.Filled.{filling_more}
use Rattle.viterbi.proofs.Branches.{pair_distances}
use Rattle.viterbi.proofs.pair_rows.Goals as goal

pub loop-pair-preserved : goal.loop-pair-preserved
loop-pair-preserved c = rw c.from.ensures (filling_more c.loop-pair.invariant _ (omega arith) (pair_distances _ c.outputs-outputs.ensures (omega arith) (omega arith) c.distances-row.ensures))
