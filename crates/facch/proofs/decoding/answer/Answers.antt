-- `facch::decoding::answer` meets its contract: too few observed bits, a tie, or the end of the decoding of the nearest word. Assumes nothing.
use Rattle.facch.proofs.Settling.{scarce_end, tied_end, alone_end}
use Rattle.facch.proofs.decoding.answer.Goals as goal

pub returns-then-observed-lt65 : goal.returns-then-observed-lt65
returns-then-observed-lt65 c = scarce_end c.args.coded.now c.args.dvcc _ c.count_observed-observed.ensures c.if-observed-lt65.true

pub returns-then-found : goal.returns-then-found
returns-then-found c =
    tied_end c.args.coded.now c.args.dvcc _ c.count_observed-observed.ensures c.if-observed-lt65.false c.nearest_word-found.ensures c.if-found.true

pub returns : goal.returns
returns c =
    alone_end c.args.coded.now c.args.dvcc _ c.count_observed-observed.ensures c.if-observed-lt65.false c.nearest_word-found.ensures c.if-found.false c.finish.ensures
