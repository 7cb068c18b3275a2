-- `text::numerals::put_digits` meets its contract: the digits passed stand at their places. Assumes nothing.
use native.Mathlib.Omega.{arith}
use Rattle.text.proofs.Digits.{left_turn, left_all, left_none}
use Rattle.text.proofs.numerals.put_digits.Goals as goal

pub loop-i-init : goal.loop-i-init
loop-i-init g c = left_all

pub loop-i-preserved : goal.loop-i-preserved
loop-i-preserved g c = left_turn _ (omega arith) c.glyph.ensures c.loop-i.invariant

pub returns-clause-put : goal.returns-clause-put
returns-clause-put g c = left_none (omega arith) c.loop-i.invariant
