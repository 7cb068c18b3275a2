-- `dcch::soft_block::count_signs` meets its contract: the word is coded, and its bits compared with the signs. Assumes nothing.
use Rattle.dcch.proofs.SoftCells.{signs_counted}
use Rattle.dcch.proofs.soft_block.count_signs.Goals as goal

pub returns : goal.returns
returns c =
    signs_counted c.args.word.now c.args.values.now c.requires.0 c.requires.1 _
    c.convolutional_encode.auto.coded c.convolutional_encode.ensures c.sign_count.ensures
