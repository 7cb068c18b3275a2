-- Blank lines, and what a line is before its form is read. Assumes nothing.
use mathlib.Core.Path.{◌≡◌, refl, sym, ap, ap₂, subst, ◌∙◌}
use mathlib.Core.Bool.{Bool, true, false, cond, ◌&&◌}
use mathlib.Core.List.{List, [], ◌∷◌}
use Prim.Native.Nat.{ℕ, zero, suc, ◌<◌, ◌≤◌}
use native.Mathlib.Decide.{dec_lt}
use native.Mathlib.Omega.{arith}
use borrow.Author.Tests.{lt-ltb, le-ltb, ltb-false, eqb-true}
use lib.Dec.{eqb, ltb}
use lib.ListN.{length, take, replicate, length-replicate, length-take}
use lib.Seq.{take_all}
use Rattle.std.specs.List.{list_all}
use Rattle.bits.proofs.Below.{cond_true}
use Rattle.text.specs.LineKinds.{ShortBlank, blank, kind_of}
use Rattle.text.specs.declared.kind.LineKind.{LineKind}
use Rattle.text.specs.declared.kind.LineKind.TheVariants.{TooLong, Blank, Filled}

-- ---- a line is blank where each character is a space
pub all_spaces : (l : List ℕ) → list_all (λ (b : ℕ). eqb b 32) l ≡ blank l
unfolding blank
all_spaces [] = refl
all_spaces (b ∷ bs) = by (eqb b 32) (all_spaces bs)
  where
    by : (t : Bool) → list_all (λ (x : ℕ). eqb x 32) bs ≡ blank bs → (t && list_all (λ (x : ℕ). eqb x 32) bs) ≡ cond t (blank bs) false
    by true e = e
    by false e = refl

-- ---- a blank line is so many spaces
pub spaces_blank : (n : ℕ) → blank (replicate n 32) ≡ true
unfolding blank
spaces_blank zero = refl
spaces_blank (suc n) = spaces_blank n

pub blank_spaces : (l : List ℕ) → blank l ≡ true → l ≡ replicate (length l) 32
unfolding blank
blank_spaces [] e = refl
blank_spaces (b ∷ bs) e =
    let both = cond_true (eqb b 32) (blank bs) e in
    ap₂ (λ (x : ℕ) (xs : List ℕ). x ∷ xs) (eqb-true b 32 both.0) (blank_spaces bs both.1)

-- ---- the kind of a line by what the two tests told
pub kind_told : (l : List ℕ) {t u : Bool} {k : LineKind} → ltb 136 (length l) ≡ t → blank l ≡ u → cond t TooLong (cond u Blank Filled) ≡ k → k ≡ kind_of l
unfolding kind_of
kind_told l long empty e = sym (rw (long, empty) e)

pub kind_long : (l : List ℕ) → 136 < length l → TooLong ≡ kind_of l
kind_long l h = kind_told l (lt-ltb 136 (length l) h) refl refl

-- ---- up to 136 spaces are blank, and no other line is
pub kind_spaces : (n : ℕ) → n ≤ 136 → Blank ≡ kind_of (replicate n 32)
kind_spaces n h = kind_told (replicate n 32) (ap (ltb 136) (length-replicate {A = ℕ} n 32) ∙ le-ltb 136 n h) (spaces_blank n) refl

-- two cases of an enum are never one
pub never : {A : Type 0} → ◌≡◌ {A = ℕ} 0 1 → A
never z = absurd (no z)
  where
    no : ◌≡◌ {A = ℕ} 0 1 → ⊥
    no z = omega arith

cond_blank : (t u : Bool) → cond t TooLong (cond u Blank Filled) ≡ Blank → (t ≡ false) × (u ≡ true)
cond_blank true u e = never cc
cond_blank false true e = (refl, refl)
cond_blank false false e = never cc

pub blank_only : (l : List ℕ) → kind_of l ≡ Blank → ShortBlank l
unfolding kind_of
blank_only l e =
    let both = cond_blank (ltb 136 (length l)) (blank l) e in
    (ltb-false 136 (length l) both.0, blank_spaces l both.1)

-- ---- no more than 137 characters of a line count where all long lines are answered alike
pub cut_alike : {A : Type 0} (f : List ℕ → A) {a : A} → ((l : List ℕ) → 136 < length l → f l ≡ a) → (l : List ℕ) → f (take 137 l) ≡ f l
cut_alike f {a} alike l = elim (dec_lt 136 (length l)) [ yes h ↦ long h | no h ↦ ap f (take_all 137 l (omega arith)) ]
  where
    long : 136 < length l → f (take 137 l) ≡ f l
    long h = alike (take 137 l) (subst (λ (k : ℕ). 136 < k) (sym (length-take 137 l)) (omega arith)) ∙ sym (alike l h)
