-- The list of a function's values below a number. Assumes nothing.
use mathlib.Core.Path.{◌≡◌, refl, sym, ap, ap₂, ◌∙◌}
use mathlib.Core.List.{List, ◌∷◌, map}
use Prim.Native.Nat.{ℕ, zero, suc, ◌<◌}
use native.Mathlib.Omega.{arith}
use native.Mathlib.Nat.{not-suc-le-zero}
use lib.ListN.{length, get_or, get_or-map}
use lib.Seq.{ext_get_or}
use Rattle.bits.specs.Places.{listed}

pub length-listed : {A : Type 0} (n : ℕ) (f : ℕ → A) → length (listed n f) ≡ n
unfolding listed
length-listed zero f = refl
length-listed (suc n) f = ap suc (length-listed n (λ i. f (suc i)))

pub get_d_listed : {A : Type 0} (n : ℕ) (f : ℕ → A) (d : A) (i : ℕ) → i < n → get_or (listed n f) i d ≡ f i
unfolding listed
get_d_listed zero f d i h = absurd (not-suc-le-zero h)
get_d_listed (suc n) f d zero h = refl
get_d_listed (suc n) f d (suc i) h = get_d_listed n (λ j. f (suc j)) d i (omega arith)

-- a list is the one of f when it has n elements and each is f's
pub is_listed : {A : Type 0} (n : ℕ) (f : ℕ → A) (d : A) (l : List A) → length l ≡ n
    → ((i : ℕ) → i < n → get_or l i d ≡ f i) → l ≡ listed n f
is_listed n f d l e p =
    ext_get_or d l (listed n f) (e ∙ sym (length-listed n f)) (λ i h. p i (omega arith) ∙ sym (get_d_listed n f d i (omega arith)))

pub map-listed : {A B : Type 0} (g : A → B) (n : ℕ) (f : ℕ → A) → map g (listed n f) ≡ listed n (λ i. g (f i))
unfolding listed
map-listed g zero f = refl
map-listed {A} {B} g (suc n) f = ap (λ (l : List B). g (f 0) ∷ l) (map-listed g n (λ i. f (suc i)))

pub listed_same : {A : Type 0} (n : ℕ) (f g : ℕ → A) → ((i : ℕ) → f i ≡ g i) → listed n f ≡ listed n g
unfolding listed
listed_same zero f g p = refl
listed_same {A} (suc n) f g p = ap₂ (λ (x : A) (l : List A). x ∷ l) (p 0) (listed_same n (λ i. f (suc i)) (λ i. g (suc i)) (λ i. p (suc i)))

-- ---- the list that takes its i-th element from the place p i of another
module _ {A : Type 0} (n : ℕ) (p : ℕ → ℕ) (d : A) where
  pub map-taken : {B : Type 0} (g : A → B) (l : List A) → map g (listed n (λ i. get_or l (p i) d)) ≡ listed n (λ i. get_or (map g l) (p i) (g d))
  map-taken g l = map-listed g n (λ i. get_or l (p i) d) ∙ listed_same n _ _ (λ i. sym (get_or-map g l (p i) d))

  -- taken back by q, where p (q i) is i
  pub taken_back : (q : ℕ → ℕ) → ((i : ℕ) → i < n → q i < n) → ((i : ℕ) → i < n → p (q i) ≡ i)
      → (l : List A) → length l ≡ n → listed n (λ i. get_or (listed n (λ j. get_or l (p j) d)) (q i) d) ≡ l
  taken_back q b e l len =
      sym (is_listed n _ d l len (λ i h. sym (get_d_listed n (λ j. get_or l (p j) d) d (q i) (b i h) ∙ ap (λ (k : ℕ). get_or l k d) (e i h))))
