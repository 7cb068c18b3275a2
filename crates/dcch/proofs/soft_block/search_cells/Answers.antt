-- `dcch::soft_block::search_cells` meets its contract: the search's word, its count, and the end of the decoding. Assumes nothing.
use Rattle.dcch.proofs.SoftCells.{asks_finish, soft_end}
use Rattle.dcch.proofs.soft_block.search_cells.Goals as goal

pub finish_decode-requires : goal.finish_decode-requires
finish_decode-requires c =
    asks_finish c.args.values.now c.args.information.now c.requires.0 c.requires.1 c.viterbi_soft.new.word
    c.viterbi_soft.auto.word c.viterbi_soft.ensures

pub returns : goal.returns
returns c =
    soft_end c.args.values.now c.args.information.now c.requires.0 c.requires.1 c.viterbi_soft.new.word
    c.viterbi_soft.auto.word c.viterbi_soft.ensures c.count_signs-corrected.ensures c.finish_decode.ensures
