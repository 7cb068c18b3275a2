-- `facch::word::encode_word` meets its contract: two runs, the second from the memory that the first leaves. Assumes nothing.
use native.Mathlib.Omega.{arith}
use Rattle.facch.proofs.Biting.{bitten}
use Rattle.facch.proofs.word.encode_word.Goals as goal

pub returns : goal.returns
returns c =
    bitten c.args.word.now (omega arith) c.start_memory-start.ensures.1 c.convolutional_encode-memory.ensures c.convolutional_encode.ensures
