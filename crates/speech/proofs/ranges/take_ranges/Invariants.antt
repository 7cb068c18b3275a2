-- `speech::ranges::take_ranges` meets its contract: the ranges passed are written. Assumes nothing.
use Rattle.speech.proofs.Copying.{Taking}
use Rattle.speech.proofs.ranges.take_ranges.Given as goal

abbrev pub invariant-loop-range : goal.invariant-loop-range
invariant-loop-range l = Taking l.ranges l.list l.out l.at l.range-index
