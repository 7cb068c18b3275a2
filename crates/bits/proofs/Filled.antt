-- A list that is filled element by element, from the front or from the back. Assumes nothing.
use mathlib.Core.Path.{◌≡◌, sym, ap₂, subst, ◌∙◌}
use mathlib.Core.List.{List, ◌∷◌}
use Prim.Native.Nat.{ℕ, suc, ◌+◌, ◌<◌, ◌≤◌}
use native.Mathlib.Omega.{arith}
use native.Mathlib.Decide.{ℕ_discrete}
use native.Mathlib.Nat.{le_refl, not-suc-le-zero}
use lib.ListN.{length, get_or, set, drop, length-set}
use lib.Seq.{drop-cons, drop-set-lt, get_or-set_same, get_or-set_other}

-- what holds at each place below k of a list holds below k + 1 once the place k is set right
pub set_next : {A : Type 0} (P : ℕ → A → Type 0) (d : A) (l : List A) (k : ℕ) (v : A) → k < length l → P k v
    → ((i : ℕ) → i < k → P i (get_or l i d)) → (i : ℕ) → i < k + 1 → P i (get_or (set l k v) i d)
set_next {A} P d l k v h p q i b = go (ℕ_discrete i k)
  where
    go : Dec (i ≡ k) → P i (get_or (set l k v) i d)
    go (yes e) = subst (λ (j : ℕ). P j (get_or (set l k v) j d)) (sym e) (subst (P k) (sym (get_or-set_same l k v d h)) p)
    go (no n) = subst (P i) (sym (get_or-set_other l k i v d n)) (q i (omega arith))

pub set_more : {A : Type 0} (l : List A) (d : A) (f : ℕ → A) (k : ℕ) (v : A) → k < length l → v ≡ f k
    → ((i : ℕ) → i < k → get_or l i d ≡ f i) → (i : ℕ) → i < k + 1 → get_or (set l k v) i d ≡ f i
set_more {A} l d f k v h e q = set_next (λ (i : ℕ) (x : A). x ≡ f i) d l k v h e q

-- ---- a loop that fills the n places of a list from the front: those below k are right
pub record Filling {A : Type 0} (P : ℕ → A → Type 0) (d : A) (n : ℕ) (l : List A) (k : ℕ) : Type 0 where
  pub low : k ≤ n
  pub size : length l ≡ n
  pub right : (i : ℕ) → i < k → P i (get_or l i d)

pub filling_none : {A : Type 0} {P : ℕ → A → Type 0} {d : A} {n : ℕ} {l : List A} → length l ≡ n → Filling P d n l 0
filling_none e = record { low = omega arith; size = e; right = λ i h. absurd (not-suc-le-zero h) }

module _ {A : Type 0} {P : ℕ → A → Type 0} {d : A} {n : ℕ} {l : List A} {k : ℕ} (f : Filling P d n l k) where
  pub filling_more : (v : A) → k < n → P k v → Filling P d n (set l k v) (k + 1)
  filling_more v h p =
      record { low = omega arith; size = length-set l k v ∙ f.size; right = set_next P d l k v (omega (arith, f.size)) p f.right }

  pub filling_done : n ≤ k → (i : ℕ) → i < n → P i (get_or l i d)
  filling_done h i b = f.right i (omega arith)

-- the part from the place n on, once the place n is set
pub drop-set_here : (l : List ℕ) (n v : ℕ) → n < length l → drop n (set l n v) ≡ v ∷ drop (suc n) l
drop-set_here l n v h =
    let k : n < length (set l n v) = subst (λ (m : ℕ). n < m) (sym (length-set l n v)) h in
    drop-cons (set l n v) n 0 k
    ∙ ap₂ (λ (x : ℕ) (r : List ℕ). x ∷ r) (get_or-set_same l n v 0 h) (drop-set-lt (suc n) l n v (le_refl _))
