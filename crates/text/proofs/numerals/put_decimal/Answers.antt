-- `text::numerals::put_decimal` meets its contract: it puts as many digits as the number has. Assumes nothing.
use Rattle.text.proofs.Digits.{decimal-put}
use Rattle.text.proofs.numerals.put_decimal.Goals as goal

pub returns-clause-put : goal.returns-clause-put
returns-clause-put c = decimal-put _ c.decimal_places-k.ensures.0 c.put_digits.ensures.put
