-- `text::numerals::put_digits` meets its contract: the digits passed stand at their places. Assumes nothing.
use Rattle.text.proofs.Digits.{Left}
use Rattle.text.proofs.numerals.put_digits.Given as goal

abbrev pub invariant-loop-i : goal.invariant-loop-i
invariant-loop-i g l = Left g.row.BASE l.k l.n l.initial.out l.at l.i l.rest l.out
