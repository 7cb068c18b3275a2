-- The turns of class two and of the protected bits in a frame: going by ranges is going by the standard's list of class-two places. Assumes nothing.
use mathlib.Core.Path.{◌≡◌, refl, sym, ap, ap₂, subst, ◌∙◌}
use mathlib.Core.Bool.{Bool, true, false, cond, not}
use mathlib.Core.List.{List, [], ◌∷◌}
use Prim.Native.Nat.{ℕ, zero, suc}
use native.Mathlib.Omega.{arith}
use native.Mathlib.Nat.{not-suc-le-zero}
use lib.Dec.{T, leb, leb→le}
use lib.ListN.{length, get_or, get_or-map}
use Rattle.std.specs.declared.ops.Range.{Range}
use Rattle.bits.specs.Bits.{byte, bytes}
use Rattle.bits.specs.Places.{listed}
use Rattle.bits.proofs.Listed.{map-listed, listed_same}
use Rattle.bits.proofs.Tested.{both, both_left, both_right}
use Rattle.speech.specs.Classes.{is_class_two, passing, placed, taken_from, class_two_of, protected_of}
use Rattle.speech.specs.Ranges.{Bounds, ranges_of, put_ranges}
use Rattle.speech.proofs.InputBits.{by_places}

-- ---- ranges in a frame, by one test
unfoldable pub inside : List (Range ℕ) → Bool
inside [] = true
inside (r ∷ ranges) = both (both (leb r.start r.end) (leb r.end 260)) (inside ranges)

within : (ranges : List (Range ℕ)) → T (inside ranges) → Bounds ranges 260
unfolding inside
within [] t k d h = absurd (not-suc-le-zero h)
within (r ∷ ranges) t zero d h =
    let here : T (both (leb r.start r.end) (leb r.end 260)) = both_left (both (leb r.start r.end) (leb r.end 260)) (inside ranges) t in
    (leb→le r.start r.end (both_left (leb r.start r.end) (leb r.end 260) here), leb→le r.end 260 (both_right (leb r.start r.end) (leb r.end 260) here))
within (r ∷ ranges) t (suc k) d h = within ranges (both_right (both (leb r.start r.end) (leb r.end 260)) (inside ranges) t) k d (omega arith)

pub in_frame : (ranges : List (Range ℕ)) {n : ℕ} → T (inside ranges) → n ≡ 260 → Bounds ranges n
in_frame ranges t e = subst (Bounds ranges) (sym e) (within ranges t)

-- ---- the ranges of the code: those of class two, and those between them
abbrev pub range : ℕ → ℕ → Range ℕ
range a b = record { start = a; end = b }

abbrev pub turns : List (Range ℕ)
turns =
    range 0 1 ∷ range 26 27 ∷ range 52 53 ∷ range 78 79 ∷ range 93 131 ∷ range 156 157 ∷ range 182 183 ∷ range 208 209 ∷ range 223 260 ∷ []

abbrev pub between : List (Range ℕ)
between = range 1 26 ∷ range 27 52 ∷ range 53 78 ∷ range 79 93 ∷ range 131 156 ∷ range 157 182 ∷ range 183 208 ∷ range 209 223 ∷ []

-- ---- what the ranges hold, by computation on a frame that any function lists
module _ {A : Type 0} (f : ℕ → A) where
  two_listed : ranges_of turns (listed 260 f) ≡ class_two_of (listed 260 f)
  unfolding ranges_of listed taken_from is_class_two
  two_listed = refl

  protected_listed : ranges_of between (listed 260 f) ≡ protected_of (listed 260 f)
  unfolding ranges_of listed taken_from is_class_two
  protected_listed = refl

  merged_listed : (g h : ℕ → A) → put_ranges between (listed 178 h) (put_ranges turns (listed 82 g) (listed 260 f))
      ≡ listed 260 (λ p. cond (is_class_two p) (g (passing is_class_two p)) (h (passing (λ q. not (is_class_two q)) p)))
  unfolding put_ranges listed is_class_two passing
  merged_listed g h = refl

-- ---- and of any frame
pub class_two_ranges : (frame : List ℕ) → length frame ≡ 260 → ranges_of turns frame ≡ class_two_of frame
class_two_ranges frame e =
    let l : frame ≡ listed 260 (λ i. get_or frame i 0) = by_places 0 260 frame e in
    ap (ranges_of turns) l ∙ two_listed (λ i. get_or frame i 0) ∙ ap class_two_of (sym l)

pub protected_ranges : (frame : List ℕ) → length frame ≡ 260 → ranges_of between frame ≡ protected_of frame
protected_ranges frame e =
    let l : frame ≡ listed 260 (λ i. get_or frame i 0) = by_places 0 260 frame e in
    ap (ranges_of between) l ∙ protected_listed (λ i. get_or frame i 0) ∙ ap protected_of (sym l)

pub merged : (protected two frame : List ℕ) → length protected ≡ 178 → length two ≡ 82 → length frame ≡ 260
    → put_ranges between protected (put_ranges turns two frame) ≡ placed 0 protected two
unfolding placed
merged protected two frame protecteds twos all =
    ap₂ (put_ranges between) (by_places 0 178 protected protecteds) (ap₂ (put_ranges turns) (by_places 0 82 two twos) (by_places 0 260 frame all))
    ∙ merged_listed (λ i. get_or frame i 0) (λ i. get_or two i 0) (λ i. get_or protected i 0)

-- bits stay bits
pub bytes-placed : (protected two : List Bool) → bytes (placed false protected two) ≡ placed 0 (bytes protected) (bytes two)
unfolding placed
bytes-placed protected two =
    map-listed byte 260 _ ∙ listed_same 260 _ _ (λ p. go (is_class_two p) (passing is_class_two p) (passing (λ q. not (is_class_two q)) p))
  where
    go : (t : Bool) (i j : ℕ) → byte (cond t (get_or two i false) (get_or protected j false)) ≡ cond t (get_or (bytes two) i 0) (get_or (bytes protected) j 0)
    go true i j = sym (get_or-map byte two i false)
    go false i j = sym (get_or-map byte protected j false)
