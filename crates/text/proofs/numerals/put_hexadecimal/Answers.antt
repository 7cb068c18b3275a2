-- `text::numerals::put_hexadecimal` meets its contract: a space, then the digits. Assumes nothing.
use Rattle.text.proofs.Digits.{hexadecimal-put}
use Rattle.text.proofs.numerals.put_hexadecimal.Goals as goal

pub returns-clause-put : goal.returns-clause-put
returns-clause-put c = hexadecimal-put _ _ c.put-next.ensures c.put_digits.ensures.put
