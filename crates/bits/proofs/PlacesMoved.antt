-- Elements taken from places and put at places: the loops of `gather` and `scatter`, a test of places, and what a function of the elements does. Assumes nothing.
use mathlib.Core.Path.{◌≡◌, refl, sym, ap, ap₂, subst, ◌∙◌}
use mathlib.Core.Bool.{Bool, true, false, cond}
use mathlib.Core.List.{List, [], ◌∷◌, map}
use Prim.Native.Nat.{ℕ, ◌+◌, ◌<◌, ◌≤◌}
use native.Mathlib.Omega.{arith}
use lib.Dec.{T, ltb, eqb→eq, ltb→lt}
use lib.ListN.{length, get_or, get_or-map, length-map, set, take}
use lib.Seq.{ext_get_or, length-take-le, get_or-take}
use borrow.Author.Tests.{lt-ltb, le-ltb}
use Rattle.bits.specs.Bits.{bit, bits}
use Rattle.bits.specs.Places.{listed, place_in, taken, put, Below, Apart}
use Rattle.bits.proofs.Listed.{length-listed, get_d_listed, map-listed, listed_same}
use Rattle.bits.proofs.Filled.{Filling}
use Rattle.bits.proofs.Permuted.{stands, permutes}
use Rattle.bits.proofs.Scattered.{Scattering, scattering_more, scattering_over, filled_listed}
use Rattle.bits.proofs.Tested.{both_left, both_right, every, below}

-- ---- the test of places
pub stands_apart : (places : List ℕ) (m n : ℕ) → length places ≡ m → T (every (stands places n) m) → Apart places n
unfolding stands
stands_apart places m n e t =
    record {
      low = λ k h. ltb→lt _ _ (both_left (ltb (get_or places k 0) n) _ (below (stands places n) m t k (omega arith)));
      once = λ k h. eqb→eq _ _ (both_right (ltb (get_or places k 0) n) _ (below (stands places n) m t k (omega arith)));
    }

-- of an order of all the places
pub permuted_apart : (order : List ℕ) (n : ℕ) → length order ≡ n → T (permutes order n) → Apart order n
unfolding permutes
permuted_apart order n e t = stands_apart order n n e (both_left (every (stands order n) n) _ t)

-- what the calls ask, of places that are those of a table
pub asks_gather : (places table : List ℕ) (n have room : ℕ) → places ≡ table → Apart table n → have ≡ n → room ≡ length table
    → (room ≡ length places) × Below places have
asks_gather places table n have room e a h r =
    subst (λ (l : List ℕ). (room ≡ length l) × Below l have) (sym e) (r, subst (Below table) (sym h) a.low)

pub asks_scatter : (places table : List ℕ) (n have room : ℕ) → places ≡ table → Apart table n → length table ≤ have → room ≡ n
    → (length places ≤ have) × Apart places room
asks_scatter places table n have room e a h r =
    subst (λ (l : List ℕ). (length l ≤ have) × Apart l room) (sym e) (h, subst (Apart table) (sym r) a)

-- ---- taken
module _ {A : Type 0} (d : A) where
  pub taken-listed : (places : List ℕ) (l : List A) → taken d places l ≡ listed (length places) (λ i. get_or l (get_or places i 0) d)
  unfolding taken listed
  taken-listed [] l = refl
  taken-listed (p ∷ places) l = ap (λ (r : List A). get_or l p d ∷ r) (taken-listed places l)

  pub taken-length : (places : List ℕ) (l : List A) → length (taken d places l) ≡ length places
  unfolding taken
  taken-length places l = length-map places _

  pub taken-map : {B : Type 0} (g : A → B) (places : List ℕ) (l : List A) → map g (taken d places l) ≡ taken (g d) places (map g l)
  unfolding taken
  taken-map g [] l = refl
  taken-map {B} g (p ∷ places) l = ap₂ (λ (x : B) (r : List B). x ∷ r) (sym (get_or-map g l p d)) (taken-map g places l)

  pub taken_at : (places : List ℕ) (l : List A) (k : ℕ) → k < length places → get_or (taken d places l) k d ≡ get_or l (get_or places k 0) d
  taken_at places l k h = ap (λ (r : List A). get_or r k d) (taken-listed places l) ∙ get_d_listed (length places) _ d k h

  -- ---- put
  -- an element of the list after it
  pub put_at : (places : List ℕ) (from to : List A) (m p : ℕ) → length places ≡ m → p < length to
      → get_or (put d places from to) p d ≡ cond (ltb (place_in places p) m) (get_or from (place_in places p) d) (get_or to p d)
  unfolding put
  put_at places from to m p e h =
      get_d_listed (length to) _ d p h ∙ ap (λ (n : ℕ). cond (ltb (place_in places p) n) (get_or from (place_in places p) d) (get_or to p d)) e

  pub put-length : (places : List ℕ) (from to : List A) → length (put d places from to) ≡ length to
  unfolding put
  put-length places from to = length-listed (length to) _

  pub put-map : {B : Type 0} (g : A → B) (places : List ℕ) (from to : List A) → map g (put d places from to) ≡ put (g d) places (map g from) (map g to)
  unfolding put
  put-map {B} g places from to =
      map-listed g (length to) _ ∙ listed_same (length to) _ after (λ p. either (ltb (place_in places p) (length places)) p)
      ∙ ap (λ (n : ℕ). listed n after) (sym (length-map to g))
    where
      after : ℕ → B
      after p = cond (ltb (place_in places p) (length places)) (get_or (map g from) (place_in places p) (g d)) (get_or (map g to) p (g d))

      either : (t : Bool) (p : ℕ) → g (cond t (get_or from (place_in places p) d) (get_or to p d))
          ≡ cond t (get_or (map g from) (place_in places p) (g d)) (get_or (map g to) p (g d))
      either true p = sym (get_or-map g from (place_in places p) d)
      either false p = sym (get_or-map g to p d)

-- ---- taken again
module _ {A : Type 0} (d : A) (places : List ℕ) (from to : List A) (a : Apart places (length to)) where
  -- from the places at which they were put
  pub taken_put : length places ≤ length from → taken d places (put d places from to) ≡ take (length places) from
  taken_put b =
      ext_get_or d (taken d places (put d places from to)) (take (length places) from)
      (taken-length d places (put d places from to) ∙ sym (length-take-le (length places) from b))
      (λ k h. back k (omega (arith, taken-length d places (put d places from to))))
    where
      back : (k : ℕ) → k < length places → get_or (taken d places (put d places from to)) k d ≡ get_or (take (length places) from) k d
      back k h =
          taken_at d places (put d places from to) k h
          ∙ put_at d places from to (length places) (get_or places k 0) refl (a.low k h)
          ∙ ap₂ (λ (t : Bool) (p : ℕ). cond t (get_or from p d) (get_or to (get_or places k 0) d))
          (ap (λ (p : ℕ). ltb p (length places)) (a.once k h) ∙ lt-ltb k (length places) h) (a.once k h)
          ∙ sym (get_or-take (length places) from k d h)

  -- from places at which nothing was put
  pub taken_kept : (others : List ℕ) → Below others (length to) → ((k : ℕ) → k < length others → length places ≤ place_in places (get_or others k 0))
      → taken d others (put d places from to) ≡ taken d others to
  taken_kept others low apart =
      ext_get_or d (taken d others (put d places from to)) (taken d others to)
      (taken-length d others (put d places from to) ∙ sym (taken-length d others to))
      (λ k h. kept k (omega (arith, taken-length d others (put d places from to))))
    where
      kept : (k : ℕ) → k < length others → get_or (taken d others (put d places from to)) k d ≡ get_or (taken d others to) k d
      kept k h =
          taken_at d others (put d places from to) k h
          ∙ put_at d places from to (length places) (get_or others k 0) refl (low k h)
          ∙ ap (λ (t : Bool). cond t (get_or from (place_in places (get_or others k 0)) d) (get_or to (get_or others k 0) d))
          (le-ltb (place_in places (get_or others k 0)) (length places) (apart k h))
          ∙ sym (taken_at d others to k h)

-- ---- bits of bytes
pub bits-taken : (places l : List ℕ) → bits (taken 0 places l) ≡ taken false places (bits l)
bits-taken = taken-map 0 bit

pub bits-put : (places from to : List ℕ) → bits (put 0 places from to) ≡ put false places (bits from) (bits to)
bits-put = put-map 0 bit

-- ---- `gather`
abbrev pub Gathering : List ℕ → List ℕ → List ℕ → ℕ → Type 0
Gathering places from to i = Filling (λ k x. x ≡ get_or from (get_or places k 0) 0) 0 (length places) to i

pub gathering_done : (places from : List ℕ) {to : List ℕ} {i : ℕ} → Gathering places from to i → length places ≤ i → to ≡ taken 0 places from
gathering_done places from g h = filled_listed g h ∙ sym (taken-listed 0 places from)

-- ---- `scatter`
abbrev pub Putting : List ℕ → List ℕ → List ℕ → List ℕ → ℕ → Type 0
Putting places from to₀ to i = Scattering places (λ k. get_or from k 0) 0 (length to₀) to₀ to i

module _ (places from to₀ : List ℕ) {to : List ℕ} {i : ℕ} (a : Apart places (length to₀)) (s : Putting places from to₀ to i) where
  pub putting_more : {p : ℕ} → i < length places → p ≡ get_or places i 0 → Putting places from to₀ (set to p (get_or from i 0)) (i + 1)
  putting_more h e = scattering_more a s h e refl

  pub putting_done : length places ≤ i → to ≡ put 0 places from to₀
  unfolding put
  putting_done h = scattering_over a s h
