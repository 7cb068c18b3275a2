-- Lists by their places: what stands at some places, and what is put at them.
use Rattle.std.specs.Prelude.{◌≡◌, cond, List, [], ◌∷◌, map, ℕ, zero, suc, ◌<◌, eqb, ltb, length, get_or}

-- f 0 to f (n - 1)
unfoldable pub listed : {A : Type 0} → ℕ → (ℕ → A) → List A
listed zero f = []
listed (suc n) f = f 0 ∷ listed n (λ (i : ℕ). f (suc i))

-- the first place at which a number stands in an order; the order's length where it stands nowhere
unfoldable pub place_in : List ℕ → ℕ → ℕ
place_in [] x = 0
place_in (y ∷ order) x = cond (eqb y x) 0 (suc (place_in order x))

-- the elements at the places, d where a list has no such place
unfoldable pub taken : {A : Type 0} → A → List ℕ → List A → List A
taken d places from = map (λ (p : ℕ). get_or from p d) places

-- the elements put at the places; every other place as it was
unfoldable pub put : {A : Type 0} → A → List ℕ → List A → List A → List A
put d places from to =
    listed (length to) (λ (p : ℕ). cond (ltb (place_in places p) (length places)) (get_or from (place_in places p) d) (get_or to p d))

-- each place is below n
abbrev pub Below : List ℕ → ℕ → Type 0
Below places n = (k : ℕ) → k < length places → get_or places k 0 < n

-- and none stands twice
pub record Apart (places : List ℕ) (n : ℕ) : Type 0 where
  pub low : Below places n
  pub once : (k : ℕ) → k < length places → place_in places (get_or places k 0) ≡ k
