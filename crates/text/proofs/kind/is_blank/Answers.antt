-- `text::kind::is_blank` meets its contract: each character is a space. Assumes nothing.
use mathlib.Core.Path.{◌∙◌}
use borrow.Author.Tests.{tests}
use lib.Dec.{eqb}
use Rattle.std.proofs.Common.{rules}
use Rattle.std.proofs.lemmas.Iterator.{YieldsList-from_slice}
use Rattle.std.proofs.lemmas.Iterator.Search.{all_from_yields_List}
use Rattle.text.proofs.LineKinds.{all_spaces}
use Rattle.text.proofs.kind.is_blank.Goals as goal

pub returns : goal.returns
returns c =
    all_from_yields_List (λ b. eqb b 32) _ _ _ c.all.ensures.ran (YieldsList-from_slice c.args.line.now cc) (λ x b q k. search (rules, tests))
    ∙ all_spaces c.args.line.now
