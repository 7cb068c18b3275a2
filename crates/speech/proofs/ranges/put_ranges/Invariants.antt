-- `speech::ranges::put_ranges` meets its contract: the ranges passed hold their bits. Assumes nothing.
use Rattle.speech.proofs.Copying.{Putting}
use Rattle.speech.proofs.ranges.put_ranges.Given as goal

abbrev pub invariant-loop-range : goal.invariant-loop-range
invariant-loop-range l = Putting l.ranges l.bits l.initial.list l.list l.at l.range-index
