-- A rule of a table, or of the numbers below a bound, proved by one test that antt computes. Assumes nothing.
use mathlib.Core.Path.{◌≡◌, refl, sym, ap₂, subst}
use mathlib.Core.Bool.{Bool, true, false}
use mathlib.Core.List.{List, [], ◌∷◌}
use Prim.Native.Nat.{ℕ, zero, suc, ◌<◌}
use native.Mathlib.Omega.{arith}
use native.Mathlib.Nat.{not-suc-le-zero}
use native.Mathlib.Decide.{ℕ_discrete}
use lib.Dec.{T}

abbrev pub both : Bool → Bool → Bool
both true b = b
both false b = false

pub both_left : (a b : Bool) → T (both a b) → T a
both_left true b t = tt
both_left false b t = t

pub both_right : (a b : Bool) → T (both a b) → T b
both_right true b t = t
both_right false b t = absurd t

-- the test passes at each number below n
abbrev pub every : (ℕ → Bool) → ℕ → Bool
every f zero = true
every f (suc n) = both (f n) (every f n)

pub below : (f : ℕ → Bool) (n : ℕ) → T (every f n) → (k : ℕ) → k < n → T (f k)
below f zero t k h = absurd (not-suc-le-zero h)
below f (suc n) t k h = go (ℕ_discrete k n) (below f n (both_right (f n) (every f n) t) k)
  where
    go : Dec (k ≡ n) → (k < n → T (f k)) → T (f k)
    go (yes e) r = subst (λ (i : ℕ). T (f i)) (sym e) (both_left (f n) (every f n) t)
    go (no e) r = r (omega arith)

-- a rule with a bit: a test for each of its values
pub below_bit : (f : Bool → ℕ → Bool) (n : ℕ) → T (every (f false) n) → T (every (f true) n) → (b : Bool) (k : ℕ) → k < n → T (f b k)
below_bit f n p q false k h = below (f false) n p k h
below_bit f n p q true k h = below (f true) n q k h

-- ---- tests of equality
abbrev pub same_bit : Bool → Bool → Bool
same_bit true b = b
same_bit false true = false
same_bit false false = true

pub same_bit_eq : (a b : Bool) → T (same_bit a b) → a ≡ b
same_bit_eq true true t = refl
same_bit_eq true false t = absurd t
same_bit_eq false true t = absurd t
same_bit_eq false false t = refl

abbrev pub same_bits : List Bool → List Bool → Bool
same_bits [] [] = true
same_bits [] (b ∷ w) = false
same_bits (a ∷ u) [] = false
same_bits (a ∷ u) (b ∷ w) = both (same_bit a b) (same_bits u w)

pub same_bits_eq : (u w : List Bool) → T (same_bits u w) → u ≡ w
same_bits_eq [] [] t = refl
same_bits_eq [] (b ∷ w) t = absurd t
same_bits_eq (a ∷ u) [] t = absurd t
same_bits_eq (a ∷ u) (b ∷ w) t =
    ap₂ (λ (x : Bool) (l : List Bool). x ∷ l) (same_bit_eq a b (both_left (same_bit a b) (same_bits u w) t))
    (same_bits_eq u w (both_right (same_bit a b) (same_bits u w) t))
