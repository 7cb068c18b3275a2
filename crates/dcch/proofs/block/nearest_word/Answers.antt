-- `dcch::block::nearest_word` meets its contract: the cells of the block are searched. Assumes nothing.
use Rattle.dcch.proofs.Decodings.{found}
use Rattle.dcch.proofs.block.nearest_word.Goals as goal

pub returns : goal.returns
returns c =
    found c.args.format c.args.block.now _ c.encoded_bits-bits.ensures _ c.deinterleave.auto.cells
    (c.deinterleave.ensures 0) c.args.word.now c.requires.1 c.terminated.ensures
