-- What Ok says of the arguments: each test was passed. Assumes nothing.
use mathlib.Core.Path.{◌≡◌, refl, sym, ap, ap₂, ◌∙◌}
use mathlib.Core.Bool.{Bool, true, false, cond}
use mathlib.Core.List.{List}
use Prim.Native.Nat.{ℕ, ◌<◌}
use native.Mathlib.Omega.{arith}
use lib.Dec.{eqb, ltb}
use lib.ListN.{length}
use borrow.Author.Tests.{eqb-true, eq-eqb, ltb-true, lt-ltb}
use Rattle.bits.specs.Bits.{all_binary}
use Rattle.bits.specs.Arguments.{Arguments, first_refusal, exact_of, binary_of, below_of, exact_bits, bits_and_room, two_and_room}
use Rattle.bits.specs.Observed.{all_erasable, exact_erasable}
use Rattle.std.specs.Prelude.{Ok, Err}
use Rattle.bits.specs.declared.Refusal.{Refusal}
use Rattle.bits.specs.declared.Refusal.TheVariants.{Length, Symbol}

-- Ok and a refusal are told apart
pub never_both : {A : Type 0} {l : Arguments} {why : Refusal} → l ≡ Ok tt → l ≡ Err why → A
never_both e f = let z : ◌≡◌ {A = ℕ} 0 1 = cc in absurd (omega arith)

pub test_passed : (t : Bool) (why : Refusal) (x : Arguments) → cond t x (Err why) ≡ Ok tt → (t ≡ true) × (x ≡ Ok tt)
test_passed true why x e = (refl, e)
test_passed false why x e = never_both e refl

pub passed_first : (a b : Arguments) → first_refusal a b ≡ Ok tt → (a ≡ Ok tt) × (b ≡ Ok tt)
passed_first (Ok tt) b e = (refl, e)
passed_first (Err why) b e = never_both e refl

pub passed_exact : (expected actual : ℕ) → exact_of expected actual ≡ Ok tt → expected ≡ actual
passed_exact expected actual e = eqb-true expected actual (test_passed (eqb expected actual) (Length expected actual) (Ok tt) e).0

pub passed_binary : (l : List ℕ) → binary_of l ≡ Ok tt → all_binary l ≡ true
passed_binary l e = (test_passed (all_binary l) Symbol (Ok tt) e).0

pub passed_below : (limit x : ℕ) → below_of limit x ≡ Ok tt → x < limit
passed_below limit x e = ltb-true x limit (test_passed (ltb x limit) Symbol (Ok tt) e).0

-- ---- and what gives Ok
pub exact_passed : (n m : ℕ) → m ≡ n → exact_of n m ≡ Ok tt
exact_passed n m e = rw (eq-eqb n m (sym e))

pub binary_passed : (l : List ℕ) → all_binary l ≡ true → binary_of l ≡ Ok tt
binary_passed l e = ap (λ (t : Bool). cond t (Ok tt) (Err Symbol)) e

pub below_passed : (limit x : ℕ) → x < limit → below_of limit x ≡ Ok tt
below_passed limit x h = rw (lt-ltb x limit h)

-- ---- bits of an exact length, alone and with room
pub bits_passed : (n : ℕ) (l : List ℕ) → length l ≡ n → all_binary l ≡ true → exact_bits n l ≡ Ok tt
bits_passed n l size binary = ap₂ first_refusal (exact_passed n (length l) size) (binary_passed l binary)

pub passed_room : (n : ℕ) (l : List ℕ) (m room : ℕ) {ready : Arguments} → ready ≡ bits_and_room n l m room → ready ≡ Ok tt → (length l ≡ n) × (room ≡ m) × (all_binary l ≡ true)
passed_room n l m room told passed =
    let p = passed_first (exact_of n (length l)) _ (sym told ∙ passed) in
    let q = passed_first (exact_of m room) (binary_of l) p.1 in
    (sym (passed_exact n (length l) p.0), sym (passed_exact m room q.0), passed_binary l q.1)

pub room_passed : (n : ℕ) (l : List ℕ) (m room : ℕ) → length l ≡ n → room ≡ m → all_binary l ≡ true → bits_and_room n l m room ≡ Ok tt
room_passed n l m room size space binary = ap₂ first_refusal (exact_passed n (length l) size) (ap₂ first_refusal (exact_passed m room space) (binary_passed l binary))

-- ---- bytes 0, 1 and 2 of an exact length
pub erasable_passed : (n : ℕ) (l : List ℕ) → length l ≡ n → all_erasable l ≡ true → exact_erasable n l ≡ Ok tt
erasable_passed n l size e = ap₂ first_refusal (exact_passed n (length l) size) (ap (λ (t : Bool). cond t (Ok tt) (Err Symbol)) e)

-- ---- two slices and room
module _ (n : ℕ) (a : List ℕ) (m : ℕ) (b : List ℕ) (k room : ℕ) where
  pub passed_two : {ready : Arguments} → ready ≡ two_and_room n a m b k room → ready ≡ Ok tt
      → ((length a ≡ n) × (length b ≡ m) × (room ≡ k)) × ((all_binary a ≡ true) × (all_binary b ≡ true))
  passed_two told passed =
      let p = passed_first (exact_of n (length a)) _ (sym told ∙ passed) in
      let q = passed_first (exact_of m (length b)) _ p.1 in
      let r = passed_first (exact_of k room) _ q.1 in
      let s = passed_first (binary_of a) (binary_of b) r.1 in (
        (sym (passed_exact n (length a) p.0), sym (passed_exact m (length b) q.0), sym (passed_exact k room r.0)),
        (passed_binary a s.0, passed_binary b s.1),
      )

  pub two_passed : length a ≡ n → length b ≡ m → room ≡ k → all_binary a ≡ true → all_binary b ≡ true → two_and_room n a m b k room ≡ Ok tt
  two_passed la lb lr ba bb =
      ap₂ first_refusal (exact_passed n (length a) la)
      (ap₂ first_refusal (exact_passed m (length b) lb) (ap₂ first_refusal (exact_passed k room lr) (ap₂ first_refusal (binary_passed a ba) (binary_passed b bb))))
