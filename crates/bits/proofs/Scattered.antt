-- A list that is written place by place: from the front, or at the places of an order, each of which is written once. Assumes nothing.
use mathlib.Core.Path.{◌≡◌, refl, sym, ap, ◌∙◌}
use mathlib.Core.Bool.{Bool, true, false, cond}
use mathlib.Core.List.{List}
use Prim.Native.Nat.{ℕ, ◌+◌, ◌<◌, ◌≤◌}
use native.Mathlib.Decide.{ℕ_discrete}
use native.Mathlib.Omega.{arith}
use lib.Dec.{ltb}
use lib.ListN.{length, get_or, set, length-set}
use lib.Seq.{get_or-set_same, get_or-set_other}
use borrow.Author.Tests.{ltb-true, ltb-false}
use Rattle.bits.specs.Places.{listed, place_in, Apart}
use Rattle.bits.proofs.Filled.{Filling, filling_done}
use Rattle.bits.proofs.Listed.{is_listed}
use Rattle.bits.proofs.Permuted.{at_place}

-- from the front, with f's values
pub filled_listed : {A : Type 0} {f : ℕ → A} {d : A} {n : ℕ} {l : List A} {k : ℕ} → Filling (λ i x. x ≡ f i) d n l k → n ≤ k → l ≡ listed n f
filled_listed {d = d} {l = l} s h = is_listed _ _ d l s.size (filling_done s h)

-- ---- the first k places of the order hold f's values; every other place is as it was
pub record Scattering {A : Type 0} (order : List ℕ) (f : ℕ → A) (d : A) (n : ℕ) (l₀ l : List A) (k : ℕ) : Type 0 where
  pub low : k ≤ length order
  pub size : length l ≡ n
  pub right : (i : ℕ) → i < k → get_or l (get_or order i 0) d ≡ f i
  pub kept : (p : ℕ) → k ≤ place_in order p → get_or l p d ≡ get_or l₀ p d

module _ {order : List ℕ} {n : ℕ} (apart : Apart order n) {A : Type 0} {f : ℕ → A} {d : A} {l₀ l : List A} {k : ℕ} (s : Scattering order f d n l₀ l k) where
  pub scattering_more : {p : ℕ} {v : A} → k < length order → p ≡ get_or order k 0 → v ≡ f k → Scattering order f d n l₀ (set l p v) (k + 1)
  scattering_more {p} {v} h e x =
      record {
        low = omega arith;
        size = length-set l p v ∙ s.size;
        right = λ i b. right i b (ℕ_discrete i k);
        kept = λ q b. get_or-set_other l p q v d (other q b) ∙ s.kept q (omega arith);
      }
    where
      here : place_in order p ≡ k
      here = ap (place_in order) e ∙ apart.once k h

      inside : p < length l
      inside = omega (arith, s.size, apart.low k h)

      other : (q : ℕ) → k + 1 ≤ place_in order q → q ≡ p → ⊥
      other q b same = let z : place_in order q ≡ k = ap (place_in order) same ∙ here in omega arith

      right : (i : ℕ) → i < k + 1 → Dec (i ≡ k) → get_or (set l p v) (get_or order i 0) d ≡ f i
      right i b (yes same) = rw (same, ← e) (get_or-set_same l p v d inside ∙ x)
      right i b (no n) =
          get_or-set_other l p (get_or order i 0) v d
          (λ same. n (sym (apart.once i (omega arith)) ∙ ap (place_in order) same ∙ here))
          ∙ s.right i (omega arith)

  -- all of the order is written, the rest is as it was
  pub scattering_over : length order ≤ k → l ≡ listed n (λ p. cond (ltb (place_in order p) (length order)) (f (place_in order p)) (get_or l₀ p d))
  scattering_over h = is_listed n _ d l s.size (λ p b. go p (ltb (place_in order p) (length order)) refl)
    where
      go : (p : ℕ) (b : Bool) → ltb (place_in order p) (length order) ≡ b → get_or l p d ≡ cond b (f (place_in order p)) (get_or l₀ p d)
      go p true e =
          let i : place_in order p < length order = ltb-true _ _ e in
          ap (λ (q : ℕ). get_or l q d) (sym (at_place order p i)) ∙ s.right (place_in order p) (omega arith)
      go p false e = let i : length order ≤ place_in order p = ltb-false _ _ e in s.kept p (omega arith)
