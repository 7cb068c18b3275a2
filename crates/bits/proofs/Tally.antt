-- Sums over the places of two lists. Assumes nothing.
use mathlib.Core.Path.{◌≡◌, refl, sym, ap, ap₂, ◌∙◌}
use mathlib.Core.Bool.{Bool}
use mathlib.Core.List.{List, [], ◌∷◌, ◌++◌}
use Prim.Native.Nat.{ℕ, zero, suc, ◌+◌, ◌<◌, ◌≤◌}
use native.Mathlib.Omega.{arith}
use native.Mathlib.Nat.{zero-add, add_assoc}
use lib.ListN.{length, get_or, drop}
use lib.Seq.{drop-cons}
use Rattle.bits.specs.Bits.{tally, disagreements}
use Rattle.bits.proofs.Binary.{differ_le, differ_same, differ_none}

module _ {A B : Type 0} (f : A → B → ℕ) where
  pub tally_nil : (xs : List A) → tally f xs [] ≡ 0
  unfolding tally
  tally_nil [] = refl
  tally_nil (x ∷ xs) = refl

  pub tally-append : (xs zs : List A) (ys : List B) → tally f (xs ++ zs) ys ≡ tally f xs ys + tally f zs (drop (length xs) ys)
  unfolding tally
  tally-append [] zs ys = sym (zero-add (tally f zs ys))
  tally-append (x ∷ xs) zs [] = sym (ap (λ (n : ℕ). 0 + n) (tally_nil zs))
  tally-append (x ∷ xs) zs (y ∷ ys) = ap (λ (n : ℕ). f x y + n) (tally-append xs zs ys) ∙ sym (add_assoc (f x y) (tally f xs ys) (tally f zs (drop (length xs) ys)))

-- two more places of a list
pub drop_two : {A : Type 0} (l : List A) (k : ℕ) (d : A) → k + 1 < length l → drop k l ≡ get_or l k d ∷ get_or l (k + 1) d ∷ drop (k + 2) l
drop_two {A} l k d h =
    let e : suc k ≡ k + 1 = omega arith in
    let e2 : suc (suc k) ≡ k + 2 = omega arith in
    drop-cons l k d (omega arith) ∙ ap (λ (r : List A). get_or l k d ∷ r) (drop-cons l (suc k) d (omega arith) ∙ ap₂ (λ (i j : ℕ). get_or l i d ∷ drop j l) e e2)

-- ---- lists of bits that differ nowhere are the same
pub disagreements_self : (u : List Bool) → disagreements u u ≡ 0
unfolding tally
disagreements_self [] = refl
disagreements_self (b ∷ u) = ap₂ (λ (m n : ℕ). m + n) (differ_same b) (disagreements_self u)

pub disagreements_none : (u w : List Bool) → length u ≡ length w → disagreements u w ≡ 0 → u ≡ w
unfolding tally
disagreements_none [] [] l e = refl
disagreements_none [] (b ∷ w) l e = let z : ⊥ = omega arith in absurd z
disagreements_none (a ∷ u) [] l e = let z : ⊥ = omega arith in absurd z
disagreements_none (a ∷ u) (b ∷ w) l e =
    ap₂ (λ (x : Bool) (r : List Bool). x ∷ r) (differ_none a b (omega arith)) (disagreements_none u w (omega arith) (omega arith))

-- ---- no more disagreements than places
pub disagreements_le : (u w : List Bool) → disagreements u w ≤ length u
unfolding tally
disagreements_le [] w = omega arith
disagreements_le (a ∷ u) [] = omega arith
disagreements_le (a ∷ u) (b ∷ w) = omega (arith, differ_le a b, disagreements_le u w)

-- ---- a sum that is 0
module _ {A B : Type 0} (f : A → B → ℕ) (d : A) (e : B) where
  pub tally_zero : (xs : List A) (ys : List B) → ((k : ℕ) → k < length ys → f (get_or xs k d) (get_or ys k e) ≡ 0) → tally f xs ys ≡ 0
  unfolding tally
  tally_zero [] ys p = refl
  tally_zero (x ∷ xs) [] p = refl
  tally_zero (x ∷ xs) (y ∷ ys) p = ap₂ (λ (m n : ℕ). m + n) (p 0 (omega arith)) (tally_zero xs ys (λ k h. p (suc k) (omega arith)))

  pub zero_at : (xs : List A) (ys : List B) → tally f xs ys ≡ 0 → (k : ℕ) → k < length xs → k < length ys → f (get_or xs k d) (get_or ys k e) ≡ 0
  unfolding tally
  zero_at [] ys z k h g = absurd (omega arith)
  zero_at (x ∷ xs) [] z k h g = absurd (omega arith)
  zero_at (x ∷ xs) (y ∷ ys) z zero h g = omega arith
  zero_at (x ∷ xs) (y ∷ ys) z (suc k) h g = zero_at xs ys (omega arith) k (omega arith) (omega arith)
