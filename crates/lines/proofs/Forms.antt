-- The forms, and what a line is taken for by its kind and its form. Assumes nothing.
use mathlib.Core.Path.{◌≡◌, refl, sym, ap, ◌∙◌}
use mathlib.Core.Bool.{Bool, true, false, cond}
use mathlib.Core.List.{List}
use Prim.Native.Nat.{ℕ, ◌<◌, ◌≤◌}
use native.Mathlib.Omega.{arith}
use lib.ListN.{length, get_or, replicate}
use Rattle.text.specs.Lines.{shaped, two_at}
use Rattle.text.specs.LineKinds.{ShortBlank, kind_of}
use Rattle.text.specs.declared.kind.LineKind.{LineKind}
use Rattle.text.specs.declared.kind.LineKind.TheVariants as kind
use Rattle.text.proofs.LineKinds.{blank_only, kind_long, kind_spaces, never}
use Rattle.text.proofs.Reading.{shaped_at, shaped-length, digit_stands}
use Rattle.lines.specs.Commands.{by_form, by_kind, discontinuity_shape, facch_shape, parsed, sacch_shape, three_at, FacchLine, SacchLine}
use Rattle.lines.specs.declared.command.Command.TheVariants.{Blank, Sacch, Discontinuity, Facch, Unknown}

-- ---- the forms
pub sacch_line : (l : List ℕ) → shaped sacch_shape l ≡ true → SacchLine l
unfolding sacch_shape
sacch_line l e =
    record {
      long = sym (shaped-length sacch_shape l e);
      d2 = digit_stands (get_or l 2 0) (shaped_at sacch_shape l 2 (omega arith) e);
      d3 = digit_stands (get_or l 3 0) (shaped_at sacch_shape l 3 (omega arith) e);
      d5 = digit_stands (get_or l 5 0) (shaped_at sacch_shape l 5 (omega arith) e);
      d6 = digit_stands (get_or l 6 0) (shaped_at sacch_shape l 6 (omega arith) e);
      d7 = digit_stands (get_or l 7 0) (shaped_at sacch_shape l 7 (omega arith) e);
    }

pub facch_line : (l : List ℕ) → shaped facch_shape l ≡ true → FacchLine l
unfolding facch_shape
facch_line l e =
    record {
      long = sym (shaped-length facch_shape l e);
      d2 = digit_stands (get_or l 2 0) (shaped_at facch_shape l 2 (omega arith) e);
      d3 = digit_stands (get_or l 3 0) (shaped_at facch_shape l 3 (omega arith) e);
    }

-- ---- what a line is taken for, by its kind
pub parsed_at : (l : List ℕ) {p q : LineKind} → p ≡ kind_of l → p ≡ q → by_kind q l ≡ parsed l
unfolding parsed
parsed_at l e f = ap (λ (k : LineKind). by_kind k l) (sym f ∙ e)

pub parsed_long : (l : List ℕ) → 136 < length l → Unknown ≡ parsed l
unfolding by_kind
parsed_long l h = parsed_at l (kind_long l h) refl

pub parsed_spaces : (n : ℕ) → n ≤ 136 → Blank ≡ parsed (replicate n 32)
unfolding by_kind
parsed_spaces n h = parsed_at (replicate n 32) (kind_spaces n h) refl

-- ---- an `F` line has 136 characters
form_shape : (t u v : Bool) (a b e d : ℕ) → cond t (Sacch a b) (cond u Discontinuity (cond v (Facch e) Unknown)) ≡ Facch d → v ≡ true
form_shape true u v a b e d h = never cc
form_shape false true v a b e d h = never cc
form_shape false false true a b e d h = refl
form_shape false false false a b e d h = never cc

form_long : (l : List ℕ) (d : ℕ) → by_form l ≡ Facch d → length l ≡ 136
unfolding by_form
form_long l d h =
    (facch_line l
    (form_shape (shaped sacch_shape l) (shaped discontinuity_shape l) (shaped facch_shape l) (two_at l 2) (three_at l 5) (two_at l 2) d h)
    ).long

pub facch_long : (l : List ℕ) (d : ℕ) → parsed l ≡ Facch d → length l ≡ 136
unfolding parsed by_kind
facch_long l d h = by (kind_of l) h
  where
    by : (k : LineKind) → by_kind k l ≡ Facch d → length l ≡ 136
    by kind.TooLong e = never cc
    by kind.Blank e = never cc
    by kind.Filled e = form_long l d e

-- ---- only a blank line is skipped
form_not_blank : (t u v : Bool) (a b e : ℕ) → cond t (Sacch a b) (cond u Discontinuity (cond v (Facch e) Unknown)) ≡ Blank → ⊥
form_not_blank true u v a b e h = never cc
form_not_blank false true v a b e h = never cc
form_not_blank false false true a b e h = never cc
form_not_blank false false false a b e h = never cc

pub parsed-blank : (l : List ℕ) → parsed l ≡ Blank → ShortBlank l
unfolding parsed by_kind by_form
parsed-blank l h = by (kind_of l) refl h
  where
    by : (k : LineKind) → kind_of l ≡ k → by_kind k l ≡ Blank → ShortBlank l
    by kind.TooLong e f = never cc
    by kind.Blank e f = blank_only l e
    by kind.Filled e f = absurd (form_not_blank (shaped sacch_shape l) (shaped discontinuity_shape l) (shaped facch_shape l) (two_at l 2) (three_at l 5) (two_at l 2) f)
