-- `text::has_shape` meets its contract. Assumes nothing.
use mathlib.Core.Path.{◌∙◌}
use borrow.Author.Tests.{tests, ne_eqb}
use Prim.Native.Nat.{ℕ}
use Rattle.std.proofs.Common.{rules}
use Rattle.std.proofs.lemmas.Iterator.{YieldsList-from_slice, YieldsList-from_zip}
use Rattle.std.proofs.lemmas.Iterator.Search.{all_from_yields_List}
use Rattle.text.specs.Lines.{stands}
use Rattle.text.proofs.Reading.{all_stand, not_shaped}
use Rattle.text.proofs.has_shape.Goals as goal

pub returns-then-shape-text : goal.returns-then-shape-text
returns-then-shape-text c =
    all_from_yields_List (λ (p : ℕ × ℕ). stands p.0 p.1) c.all.new.self _ _ c.all.ensures.ran
    (YieldsList-from_zip {s = c.zip.result} (YieldsList-from_slice c.args.shape.now cc) (YieldsList-from_slice c.args.text.now cc)) (λ x b q k. search (rules, tests))
    ∙ all_stand c.args.shape.now c.args.text.now c.if-shape-text.true

pub returns-else-shape-text : goal.returns-else-shape-text
returns-else-shape-text c = ne_eqb _ _ c.if-shape-text.false ∙ not_shaped c.args.shape.now c.args.text.now c.if-shape-text.false
