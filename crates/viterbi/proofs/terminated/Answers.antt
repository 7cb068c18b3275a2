-- `viterbi::terminated` meets its contract: the engine searches the words of the code. Assumes nothing.
use Rattle.viterbi.proofs.Searched.{found_terminated}
use Rattle.viterbi.proofs.terminated.Goals as goal

pub returns : goal.returns
returns c = found_terminated c.args.coded.now _ c.pair_rows-rows.ensures _ c.pair_symbols-symbols.ensures _ c.requires.1 c.requires.2 c.requires.0 _ _ c.nearest_between.ensures
