-- The loop that takes the bit of each weight from its place of a ring, the places in order. Assumes nothing.
use mathlib.Core.Path.{◌≡◌, refl, sym, ◌∙◌, ap, ap₂}
use mathlib.Core.Bool.{Bool, true, false, ◌&&◌, ◌||◌}
use mathlib.Core.List.{List}
use Prim.Native.Nat.{ℕ, zero, suc, ◌+◌, ◌-◌, ◌/◌, ◌%◌, ◌^◌, ◌≤◌, ◌<◌}
use native.Mathlib.Decide.{ℕ_discrete}
use native.Mathlib.Omega.{arith}
use borrow.Author.Tests.{eq-eqb, ne_eqb}
use lib.Bits.{bit_and, bit_or, and_shr, and_mod, and_le_r, or_shr, or_mod, or_lt}
use lib.Dec.{eqb}
use lib.ListN.{get_or}
use lib.Pow as pow
use Rattle.bits.specs.Bits.{bit}
use Rattle.bits.specs.Numbers.{packed}
use Rattle.bits.specs.Places.{listed}
use Rattle.bits.proofs.Tested.{every, below, same_bit, same_bit_eq}
use Rattle.sacch_interleaver.specs.Diagonal.{bit_of}
use Rattle.sacch_interleaver.proofs.Diagonal.{twelve_again, twelve_same}

-- ---- the bits of a sum and of a part
pair : (op : ℕ → ℕ → ℕ) (o : Bool → Bool → Bool) → ((a b : ℕ) → op a b % 2 ≡ op (a % 2) (b % 2))
    → eqb (op 0 0) 1 ≡ o false false → eqb (op 0 1) 1 ≡ o false true → eqb (op 1 0) 1 ≡ o true false → eqb (op 1 1) 1 ≡ o true true
    → (a b : ℕ) → bit (op a b) ≡ o (bit a) (bit b)
pair op o low p q r s a b = ap (λ (x : ℕ). eqb x 1) (low a b) ∙ go (a % 2) (b % 2) (omega arith) (omega arith)
  where
    go : (x y : ℕ) → x < 2 → y < 2 → eqb (op x y) 1 ≡ o (eqb x 1) (eqb y 1)
    go zero zero h k = p
    go zero (suc zero) h k = q
    go (suc zero) zero h k = r
    go (suc zero) (suc zero) h k = s
    go zero (suc (suc y)) h k = absurd (omega arith)
    go (suc zero) (suc (suc y)) h k = absurd (omega arith)
    go (suc (suc x)) y h k = absurd (omega arith)

and_bit : (a b t : ℕ) → bit (bit_and a b / 2 ^ t) ≡ (bit (a / 2 ^ t) && bit (b / 2 ^ t))
and_bit a b t = ap bit (and_shr a b t) ∙ pair bit_and ◌&&◌ (λ x y. and_mod x y 1) refl refl refl refl (a / 2 ^ t) (b / 2 ^ t)

or_bit : (a b t : ℕ) → bit (bit_or a b / 2 ^ t) ≡ (bit (a / 2 ^ t) || bit (b / 2 ^ t))
or_bit a b t = ap bit (or_shr a b t) ∙ pair bit_or ◌||◌ (λ x y. or_mod x y 1) refl refl refl refl (a / 2 ^ t) (b / 2 ^ t)

-- a weight has one bit
one_bit : (q t : ℕ) → q < 12 → t < 12 → bit (2 ^ q / 2 ^ t) ≡ eqb q t
one_bit q t hq ht =
    same_bit_eq _ _
    (below (λ t. same_bit (bit (2 ^ q / 2 ^ t)) (eqb q t)) 12
    (below (λ q. every (λ t. same_bit (bit (2 ^ q / 2 ^ t)) (eqb q t)) 12) 12 tt q hq) t ht)

-- what a number brings at one weight alone
weighed : (a x q t : ℕ) → q < 12 → t < 12 → bit (bit_or a (bit_and x (2 ^ q)) / 2 ^ t) ≡ (bit (a / 2 ^ t) || (bit (x / 2 ^ t) && eqb q t))
weighed a x q t hq ht =
    or_bit a (bit_and x (2 ^ q)) t
    ∙ ap (λ (b : Bool). bit (a / 2 ^ t) || b) (and_bit x (2 ^ q) t ∙ ap (λ (b : Bool). bit (x / 2 ^ t) && b) (one_bit q t hq ht))

kept : (a b : Bool) → (a || (b && false)) ≡ a
kept false false = refl
kept false true = refl
kept true false = refl
kept true true = refl

brought : (b : Bool) → (false || (b && true)) ≡ b
brought false = refl
brought true = refl

-- ---- value has the bits of the places below k of the ring; p t is the place of the bit of the weight 2 ^ t
pub record Weighing (p : ℕ → ℕ) (ring : List ℕ) (value k : ℕ) : Type 0 where
  pub low : k ≤ 12
  pub small : value < 4096
  pub taken : (t : ℕ) → t < 12 → p t < k → bit (value / 2 ^ t) ≡ bit (get_or ring (p t) 0 / 2 ^ t)
  pub left : (t : ℕ) → t < 12 → k ≤ p t → bit (value / 2 ^ t) ≡ false

nothing : (t : ℕ) → t < 12 → bit (0 / 2 ^ t) ≡ false
nothing t h = same_bit_eq _ _ (below (λ t. same_bit (bit (0 / 2 ^ t)) false) 12 tt t h)

pub weighing_none : {p : ℕ → ℕ} {ring : List ℕ} → Weighing p ring 0 0
weighing_none = record { low = omega arith; small = omega arith; taken = λ t h b. absurd (omega arith); left = λ t h b. nothing t h }

module _ {p : ℕ → ℕ} {ring : List ℕ} {value k : ℕ} (w : Weighing p ring value k) where
  -- the place k has the bit of the weight 2 ^ q, and no other
  pub weighing_more : (q : ℕ) {x m : ℕ} → k < 12 → q < 12 → p q ≡ k → ((t : ℕ) → t < 12 → p t ≡ k → q ≡ t) → x ≡ get_or ring k 0 → m ≡ 2 ^ q
      → Weighing p ring (bit_or value (bit_and x m)) (k + 1)
  weighing_more q {x} {m} h hq here alone ex em =
      record {
        low = omega arith;
        small = or_lt 12 value (bit_and x m) w.small (omega (arith, and_le_r x m, pow.pow-lt {i = q} {j = 12} hq));
        taken = λ t ht b. at t ht ∙ new t ht b (ℕ_discrete (p t) k);
        left = λ t ht b. at t ht ∙ other t ht (λ e. omega arith) ∙ w.left t ht (omega arith);
      }
    where
      at : (t : ℕ) → t < 12 → bit (bit_or value (bit_and x m) / 2 ^ t) ≡ (bit (value / 2 ^ t) || (bit (get_or ring k 0 / 2 ^ t) && eqb q t))
      at t ht = ap₂ (λ (y n : ℕ). bit (bit_or value (bit_and y n) / 2 ^ t)) ex em ∙ weighed value (get_or ring k 0) q t hq ht

      other : (t : ℕ) → t < 12 → (p t ≡ k → ⊥) → (bit (value / 2 ^ t) || (bit (get_or ring k 0 / 2 ^ t) && eqb q t)) ≡ bit (value / 2 ^ t)
      other t ht n =
          ap (λ (b : Bool). bit (value / 2 ^ t) || (bit (get_or ring k 0 / 2 ^ t) && b)) (ne_eqb q t (λ e. n (sym (ap p e) ∙ here)))
          ∙ kept (bit (value / 2 ^ t)) (bit (get_or ring k 0 / 2 ^ t))

      new : (t : ℕ) → t < 12 → p t < k + 1 → Dec (p t ≡ k) → (bit (value / 2 ^ t) || (bit (get_or ring k 0 / 2 ^ t) && eqb q t)) ≡ bit (get_or ring (p t) 0 / 2 ^ t)
      new t ht b (yes e) =
          ap₂ (λ (u v : Bool). u || (bit (get_or ring k 0 / 2 ^ t) && v)) (w.left t ht (omega arith)) (eq-eqb q t (alone t ht e))
          ∙ brought (bit (get_or ring k 0 / 2 ^ t)) ∙ ap (λ (i : ℕ). bit (get_or ring i 0 / 2 ^ t)) (sym e)
      new t ht b (no n) = other t ht n ∙ w.taken t ht (omega arith)

  -- the twelve bits, the highest first, by their places
  pub weighing_done : 12 ≤ k → (g : ℕ → ℕ) → ((j : ℕ) → j < 12 → p (11 - j) ≡ g j) → ((t : ℕ) → p t < 12) → value ≡ packed (listed 12 (λ j. bit_of (get_or ring (g j) 0) j))
  weighing_done h g same inside =
      sym (twelve_again value w.small)
      ∙ twelve_same _ _ (λ j b. w.taken (11 - j) (omega arith) (omega (arith, inside (11 - j))) ∙ ap (λ (i : ℕ). bit_of (get_or ring i 0) j) (same j b))
