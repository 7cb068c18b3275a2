-- `search::row::generator_outputs` meets its contract: the places passed hold the output bits. Assumes nothing.
use Rattle.std.proofs.Common.{arith}
use Rattle.bits.proofs.Filled.{filling_more}
use Rattle.search.proofs.ByPlace.{output-byte}
use Rattle.search.proofs.row.generator_outputs.Goals as goal

pub loop-place-preserved : goal.loop-place-preserved
loop-place-preserved c =
    rw c.from.ensures (filling_more c.loop-place.invariant _ (omega arith) (output-byte _ _ _ _ c.register_at.ensures c.parity.ensures))
