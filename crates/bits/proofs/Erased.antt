-- Bytes 0, 1 and 2: what they cost against a coded bit, and how many are observed. Assumes nothing.
use mathlib.Core.Path.{◌≡◌, refl, ap}
use mathlib.Core.Bool.{Bool, true, false, cond, not}
use mathlib.Core.List.{List, [], ◌∷◌}
use Prim.Native.Nat.{ℕ, suc, ◌+◌, ◌<◌, ◌≤◌}
use native.Mathlib.Omega.{arith}
use native.Mathlib.Nat.{zero-add}
use native.Mathlib.Numerals.{add-one}
use lib.Dec.{eqb}
use lib.ListN.{length, get_or, drop, drop_of_length-le}
use lib.Seq.{drop-cons}
use borrow.Author.Tests.{eq-eqb, ne_eqb}
use mir.Val.{bool_byte}
use Rattle.bits.specs.Bits.{all_binary, bit, disagreement, tally}
use Rattle.bits.specs.Observed.{all_erasable, erased_differ, observed_one, observed_count}
use Rattle.bits.proofs.Below.{below_all}
use Rattle.bits.proofs.Binary.{binary_at, differ_le}

pub binary_erasable : (l : List ℕ) → all_binary l ≡ true → all_erasable l ≡ true
binary_erasable l e = below_all 3 l (λ k h. omega (arith, binary_at l e k h))

-- ---- erased_differ
pub erased_none : (sent : Bool) (received : ℕ) → received ≡ 2 → 0 ≡ erased_differ sent received
unfolding erased_differ
erased_none sent received e = rw (eq-eqb received 2 e)

pub erased_seen : (sent : Bool) (received x : ℕ) → (received ≡ 2 → ⊥) → x ≡ disagreement sent (bit received) → x ≡ erased_differ sent received
unfolding erased_differ
erased_seen sent received x n e = rw (ne_eqb received 2 n) e

-- ---- observed bytes
pub not_observed : (x : ℕ) → x ≡ 2 → 0 ≡ observed_one x
unfolding observed_one
not_observed x e = rw (eq-eqb x 2 e)

pub is_observed : (x : ℕ) → (x ≡ 2 → ⊥) → 1 ≡ observed_one x
unfolding observed_one
is_observed x n = rw (ne_eqb x 2 n)

-- as the code tells it
pub observed_of : (x : ℕ) → bool_byte (not (eqb x 2)) ≡ observed_one x
unfolding observed_one
observed_of x = go (eqb x 2)
  where
    go : (t : Bool) → bool_byte (not t) ≡ cond t 0 1
    go true = refl
    go false = refl

pub observed_one_le : (x : ℕ) → observed_one x ≤ 1
unfolding observed_one
observed_one_le x = go (eqb x 2)
  where
    go : (t : Bool) → cond t 0 1 ≤ 1
    go true = omega arith
    go false = omega arith

pub observed_le : (s : List ℕ) → observed_count s ≤ length s
unfolding observed_count
observed_le [] = omega arith
observed_le (x ∷ s) = omega (arith, observed_one_le x, observed_le s)

-- ---- at most as many disagreements as observed bytes
erased_one : (sent : Bool) (received : ℕ) → erased_differ sent received ≤ observed_one received
unfolding erased_differ observed_one
erased_one sent received = go (eqb received 2)
  where
    go : (t : Bool) → cond t 0 (disagreement sent (bit received)) ≤ cond t 0 1
    go true = omega arith
    go false = differ_le sent (bit received)

pub erased_le : (sent : Bool) (received : ℕ) → erased_differ sent received ≤ 1
erased_le sent received = omega (arith, erased_one sent received, observed_one_le received)

pub erased_tally_le : (sent : List Bool) (received : List ℕ) → tally erased_differ sent received ≤ observed_count received
unfolding tally observed_count
erased_tally_le [] received = omega arith
erased_tally_le (b ∷ sent) [] = omega arith
erased_tally_le (b ∷ sent) (x ∷ received) = omega (arith, erased_one b x, erased_tally_le sent received)

-- ---- the loop of `count_observed`: n of the first k bytes are observed
pub record Observing (s : List ℕ) (n k : ℕ) : Type 0 where
  pub low : k ≤ length s
  pub few : n ≤ k
  pub rest : n + observed_count (drop k s) ≡ observed_count s

pub observing_none : (s : List ℕ) → Observing s 0 0
observing_none s = record { low = omega arith; few = omega arith; rest = zero-add (observed_count s) }

module _ {s : List ℕ} {n k : ℕ} (i : Observing s n k) where
  pub observing_more : (m : ℕ) → k < length s → m ≤ 1 → m ≡ observed_one (get_or s k 0) → Observing s (n + m) (k + 1)
  unfolding observed_count
  observing_more m h few e =
      let t : observed_count (drop k s) ≡ observed_one (get_or s k 0) + observed_count (drop (suc k) s) = ap observed_count (drop-cons s k 0 h) in
      let u : observed_count (drop (k + 1) s) ≡ observed_count (drop (suc k) s) = ap (λ (j : ℕ). observed_count (drop j s)) (add-one k) in
      record { low = omega arith; few = omega (arith, i.few); rest = omega (arith, i.rest) }

  pub observing_done : length s ≤ k → n ≡ observed_count s
  unfolding observed_count
  observing_done h =
      let e : observed_count (drop k s) ≡ 0 = ap observed_count (drop_of_length-le s h) in
      omega (arith, i.rest)
