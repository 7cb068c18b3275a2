-- The loop of `sign_count`: n coded bits differ from the signs in the first k places. Assumes nothing.
use mathlib.Core.Path.{◌≡◌, refl, ap, ap₂}
use mathlib.Core.Bool.{Bool, true, false, not, beq}
use mathlib.Core.List.{List}
use Prim.Native.Nat.{ℕ, suc, ◌+◌, ◌<◌, ◌≤◌}
use native.Mathlib.Omega.{arith}
use native.Mathlib.Nat.{zero-add}
use native.Mathlib.Numerals.{add-one}
use lib.ListN.{length, get_or, drop, drop_of_length-le}
use lib.Seq.{drop-cons}
use lib.Ieee.{Float, nan}
use mir.Val.{bool_byte}
use Rattle.bits.specs.Bits.{bit, bits, disagreement, tally}
use Rattle.bits.proofs.Binary.{differ_le}
use Rattle.soft.specs.Reliability.{negative, sign_count}

-- the test of two bits, as a number
pub differ_byte : (a b : Bool) → bool_byte (not (beq a b)) ≡ disagreement a b
differ_byte true true = refl
differ_byte true false = refl
differ_byte false true = refl
differ_byte false false = refl

pub record Counting (coded : List ℕ) (values : List Float) (n k : ℕ) : Type 0 where
  pub low : k ≤ length coded
  pub few : n ≤ k
  pub rest : n + sign_count (bits (drop k coded)) (drop k values) ≡ sign_count (bits coded) values

pub counting_none : (coded : List ℕ) (values : List Float) → Counting coded values 0 0
counting_none coded values = record { low = omega arith; few = omega arith; rest = zero-add (sign_count (bits coded) values) }

pub differ_one : (m : ℕ) (a b : Bool) → m ≡ disagreement a b → m ≤ 1
differ_one m a b e = omega (arith, differ_le a b)

module _ {coded : List ℕ} {values : List Float} {n k : ℕ} (i : Counting coded values n k) where
  pub counting_more : (m : ℕ) → k < length coded → length coded ≡ length values → m ≡ disagreement (bit (get_or coded k 0)) (negative (get_or values k nan)) → Counting coded values (n + m) (k + 1)
  unfolding tally
  counting_more m h l e =
      let t : sign_count (bits (drop k coded)) (drop k values) ≡ disagreement (bit (get_or coded k 0)) (negative (get_or values k nan)) + sign_count (bits (drop (suc k) coded)) (drop (suc k) values) =
      ap₂ (λ (u : List ℕ) (w : List Float). sign_count (bits u) w) (drop-cons coded k 0 h) (drop-cons values k nan (omega arith)) in
      let s : sign_count (bits (drop (k + 1) coded)) (drop (k + 1) values) ≡ sign_count (bits (drop (suc k) coded)) (drop (suc k) values) =
      ap (λ (j : ℕ). sign_count (bits (drop j coded)) (drop j values)) (add-one k) in
      record { low = omega arith; few = omega (arith, i.few, differ_one m (bit (get_or coded k 0)) (negative (get_or values k nan)) e); rest = omega (arith, i.rest) }

  pub counting_done : length coded ≤ k → n ≡ sign_count (bits coded) values
  unfolding tally
  counting_done h =
      let e : sign_count (bits (drop k coded)) (drop k values) ≡ 0 = ap (λ (u : List ℕ). sign_count (bits u) (drop k values)) (drop_of_length-le coded h) in
      omega (arith, i.rest)
