-- An order in which each number below n stands once: its places are its inverse. One test over the order, that antt computes. Assumes nothing.
use mathlib.Core.Path.{◌≡◌, refl, sym, subst}
use mathlib.Core.Bool.{Bool, true, false, cond}
use mathlib.Core.List.{List, [], ◌∷◌}
use Prim.Native.Nat.{ℕ, suc, ◌<◌}
use native.Mathlib.Nat.{not-suc-le-zero, le_of_suc-le-suc}
use lib.Dec.{T, eqb, ltb, eqb→eq, ltb→lt}
use lib.ListN.{length, get_or}
use Rattle.bits.specs.Places.{place_in}
use Rattle.bits.proofs.Tested.{both, both_left, both_right, every, below}

-- what stands at the place of a number
pub at_place : (order : List ℕ) (x : ℕ) → place_in order x < length order → get_or order (place_in order x) 0 ≡ x
unfolding place_in
at_place [] x h = absurd (not-suc-le-zero h)
at_place (y ∷ order) x h = by (eqb y x) refl (at_place order x) h
  where
    by : (t : Bool) → eqb y x ≡ t → (place_in order x < length order → get_or order (place_in order x) 0 ≡ x) → cond t 0 (suc (place_in order x)) < suc (length order) → get_or (y ∷ order) (cond t 0 (suc (place_in order x))) 0 ≡ x
    by true e later g = eqb→eq y x (subst T (sym e) tt)
    by false e later g = later (le_of_suc-le-suc g)

-- ---- the test
unfoldable pub stands : List ℕ → ℕ → ℕ → Bool
stands order n k = both (ltb (get_or order k 0) n) (eqb (place_in order (get_or order k 0)) k)

unfoldable pub found : List ℕ → ℕ → ℕ → Bool
found order n x = ltb (place_in order x) n

unfoldable pub permutes : List ℕ → ℕ → Bool
permutes order n = both (every (stands order n) n) (every (found order n) n)

-- ---- what it shows
module _ (order : List ℕ) (n : ℕ) (size : length order ≡ n) (t : T (permutes order n)) where
  at : (k : ℕ) → k < n → T (stands order n k)
  unfolding permutes
  at k h = below (stands order n) n (both_left (every (stands order n) n) _ t) k h

  pub element_below : (k : ℕ) → k < n → get_or order k 0 < n
  unfolding stands
  element_below k h = ltb→lt _ _ (both_left (ltb (get_or order k 0) n) _ (at k h))

  pub place_of_element : (k : ℕ) → k < n → place_in order (get_or order k 0) ≡ k
  unfolding stands
  place_of_element k h = eqb→eq _ _ (both_right (ltb (get_or order k 0) n) _ (at k h))

  pub place_below : (x : ℕ) → x < n → place_in order x < n
  unfolding permutes found
  place_below x h = ltb→lt _ _ (below (found order n) n (both_right (every (stands order n) n) _ t) x h)

  pub element_of_place : (x : ℕ) → x < n → get_or order (place_in order x) 0 ≡ x
  element_of_place x h = at_place order x (subst (λ (m : ℕ). place_in order x < m) (sym size) (place_below x h))
