-- Laws of digits, shapes and bits of a text. Assumes nothing.
use mathlib.Core.Path.{◌≡◌, refl, sym, ap, ◌∙◌}
use mathlib.Core.Logic.{◌≢◌}
use mathlib.Core.Bool.{Bool, true, false, cond, false≢true, ◌&&◌}
use mathlib.Core.List.{List, [], ◌∷◌}
use Prim.Native.Nat.{ℕ, zero, suc, ◌+◌, ◌-◌, ◌<◌, ◌≤◌}
use native.Mathlib.Omega.{arith}
use native.Mathlib.Nat.{not-suc-le-zero, le_of_suc-le-suc}
use borrow.Author.Tests.{ltb-true}
use lib.ListN.{length, take, drop, get_or, length-drop}
use lib.Seq.{get_or-drop, take_all}
use Rattle.std.specs.List.{AllWithin, HoldsAt, list_all, zip}
use Rattle.bits.proofs.Below.{cond_true}
use Rattle.text.specs.Lines.{LineEnd, digit_of, shaped, stands}

-- ---- one place of a shape
pub digit_stands : (b : ℕ) → stands 35 b ≡ true → digit_of b < 16
unfolding stands
digit_stands b e = ltb-true (digit_of b) 16 e

-- ---- a shape and a text
pub shaped-length : (ps bs : List ℕ) → shaped ps bs ≡ true → length ps ≡ length bs
unfolding shaped
shaped-length [] [] e = refl
shaped-length [] (b ∷ bs) e = absurd (false≢true e)
shaped-length (p ∷ ps) [] e = absurd (false≢true e)
shaped-length (p ∷ ps) (b ∷ bs) e = ap suc (shaped-length ps bs (cond_true (stands p b) (shaped ps bs) e).1)

-- each place of a text fits its shape
pub shaped_at : (ps bs : List ℕ) (i : ℕ) → i < length ps → shaped ps bs ≡ true → stands (get_or ps i 0) (get_or bs i 0) ≡ true
unfolding shaped
shaped_at [] bs i h e = absurd (not-suc-le-zero h)
shaped_at (p ∷ ps) [] i h e = absurd (false≢true e)
shaped_at (p ∷ ps) (b ∷ bs) zero h e = (cond_true (stands p b) (shaped ps bs) e).0
shaped_at (p ∷ ps) (b ∷ bs) (suc i) h e = shaped_at ps bs i (le_of_suc-le-suc h) (cond_true (stands p b) (shaped ps bs) e).1

pub not_shaped : (ps bs : List ℕ) → (length ps ≡ length bs → ⊥) → false ≡ shaped ps bs
not_shaped ps bs h = by (shaped ps bs) refl
  where
    by : (t : Bool) → shaped ps bs ≡ t → false ≡ t
    by true e = absurd (h (shaped-length ps bs e))
    by false e = refl

-- where both are as long, each place is tested
pub all_stand : (ps bs : List ℕ) → length ps ≡ length bs → list_all (λ (p : ℕ × ℕ). stands p.0 p.1) (zip ps bs) ≡ shaped ps bs
unfolding shaped
all_stand [] [] e = refl
all_stand [] (b ∷ bs) e = absurd (omega arith)
all_stand (p ∷ ps) [] e = absurd (omega arith)
all_stand (p ∷ ps) (b ∷ bs) e = by (stands p b) (all_stand ps bs (omega arith))
  where
    by : (t : Bool) → list_all (λ (q : ℕ × ℕ). stands q.0 q.1) (zip ps bs) ≡ shaped ps bs
        → (t && list_all (λ (q : ℕ × ℕ). stands q.0 q.1) (zip ps bs)) ≡ cond t (shaped ps bs) false
    by true f = f
    by false f = refl

-- ---- where a line ends, by the first LF of the characters from its start on, `rest`
module _ (text : List ℕ) (from : ℕ) where
  abbrev pub rest_of : List ℕ
  rest_of = take (length text - from) (drop from text)

  module _ (h : from ≤ length text) where
    whole : rest_of ≡ drop from text
    whole = take_all (length text - from) (drop from text) (omega (arith, length-drop from text))

    there : (k : ℕ) → from ≤ k → get_or rest_of (k - from) 0 ≡ get_or text k 0
    there k l =
        let e : from + (k - from) ≡ k = omega arith in
        ap (λ (xs : List ℕ). get_or xs (k - from) 0) whole ∙ get_or-drop from text (k - from) 0 ∙ ap (λ (i : ℕ). get_or text i 0) e

    pub rest_length : length rest_of ≡ length text - from
    rest_length = ap length whole ∙ length-drop from text

    pub no_lf : AllWithin (λ (b : ℕ). b ≢ 10) rest_of 0 (length rest_of) → LineEnd text from (length text)
    no_lf p =
        record {
          low = h;
          high = omega arith;
          inside = λ k a b e. p (k - from) 0 (omega arith) (omega (arith, rest_length)) (there k b ∙ e);
          stops = λ a. absurd (omega arith);
        }

    pub lf_at : (end : ℕ) → end < length rest_of → HoldsAt (λ (b : ℕ). b ≡ 10) rest_of end
        → AllWithin (λ (b : ℕ). b ≢ 10) rest_of 0 end → LineEnd text from (from + end)
    lf_at end a b p =
        record {
          low = omega arith;
          high = omega (arith, rest_length);
          inside = λ k c d e. p (k - from) 0 (omega arith) (omega arith) (there k d ∙ e);
          stops = λ c. sym (ap (λ (xs : List ℕ). get_or xs end 0) whole ∙ get_or-drop from text end 0) ∙ b 0;
        }
