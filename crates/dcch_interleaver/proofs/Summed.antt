-- A sum over a list in which each number below n stands once is the sum over the numbers below n: the greatest is taken out, wherever it stands.
-- Assumes nothing.
use mathlib.Core.Path.{◌≡◌, refl, sym, ap, ◌∙◌}
use mathlib.Core.List.{List, [], ◌∷◌}
use mathlib.Core.Logic.{◌⊎◌, inl, inr}
use Prim.Native.Nat.{ℕ, zero, suc, ◌+◌, ◌<◌}
use native.Mathlib.Omega.{arith}
use native.Mathlib.Nat.{le_of_suc-le-suc, not-suc-le-zero}
use lib.ListN.{length, get_or}

-- x stands in the list
abbrev pub Among : ℕ → List ℕ → Type 0
Among x [] = ⊥
Among x (y ∷ l) = (y ≡ x) ⊎ Among x l

pub among_at : (l : List ℕ) (i : ℕ) → i < length l → Among (get_or l i 0) l
among_at [] i h = absurd (not-suc-le-zero h)
among_at (y ∷ l) zero h = inl refl
among_at (y ∷ l) (suc i) h = inr (among_at l i (le_of_suc-le-suc h))

-- the list without that x
unfoldable without : (x : ℕ) (l : List ℕ) → Among x l → List ℕ
without x [] a = []
without x (y ∷ l) (inl e) = l
without x (y ∷ l) (inr a) = y ∷ without x l a

length_without : (x : ℕ) (l : List ℕ) (a : Among x l) → length l ≡ suc (length (without x l a))
unfolding without
length_without x [] a = absurd a
length_without x (y ∷ l) (inl e) = refl
length_without x (y ∷ l) (inr a) = ap suc (length_without x l a)

among_without : (x z : ℕ) (l : List ℕ) (a : Among x l) → (x ≡ z → ⊥) → Among z l → Among z (without x l a)
unfolding without
among_without x z [] a n b = absurd a
among_without x z (y ∷ l) (inl e) n (inl q) = absurd (n (sym e ∙ q))
among_without x z (y ∷ l) (inl e) n (inr b) = b
among_without x z (y ∷ l) (inr a) n (inl q) = inl q
among_without x z (y ∷ l) (inr a) n (inr b) = inr (among_without x z l a n b)

module _ (h : ℕ → ℕ) where
  -- the sum over a list, and over the numbers below n
  unfoldable pub summed : List ℕ → ℕ
  summed [] = 0
  summed (x ∷ l) = h x + summed l

  unfoldable pub sum_below : ℕ → ℕ
  sum_below zero = 0
  sum_below (suc n) = h n + sum_below n

  summed_without : (x : ℕ) (l : List ℕ) (a : Among x l) → summed l ≡ h x + summed (without x l a)
  unfolding without summed
  summed_without x [] a = absurd a
  summed_without x (y ∷ l) (inl e) = ap (λ (z : ℕ). h z + summed l) e
  summed_without x (y ∷ l) (inr a) = let e : summed l ≡ h x + summed (without x l a) = summed_without x l a in omega arith

  pub summed_below : (n : ℕ) (l : List ℕ) → length l ≡ n → ((x : ℕ) → x < n → Among x l) → summed l ≡ sum_below n
  unfolding summed sum_below
  summed_below zero [] e each = refl
  summed_below zero (x ∷ l) e each = let z : ⊥ = omega arith in absurd z
  summed_below (suc n) l e each =
      let a : Among n l = each n (omega arith) in
      summed_without n l a
      ∙ ap (λ (s : ℕ). h n + s)
      (summed_below n (without n l a) (omega (arith, length_without n l a)) (λ x b. among_without n x l a (λ q. omega arith) (each x (omega arith))))
