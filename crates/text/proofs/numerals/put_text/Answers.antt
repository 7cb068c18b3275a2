-- `text::numerals::put_text` meets its contract: the text stands at its place. Assumes nothing.
use native.Mathlib.Omega.{arith}
use Rattle.text.proofs.Stored.{put_part}
use Rattle.text.proofs.numerals.put_text.Goals as goal

pub returns-clause-put : goal.returns-clause-put
returns-clause-put c = put_part c.args.out.now c.args.text.now c.args.at _ c.requires (omega arith) c.copy_from_slice.ensures.after
