-- Std's `is_finite` and `abs` by our words, and the test of each value of a list. Assumes nothing.
use mathlib.Core.Path.{◌≡◌, refl}
use mathlib.Core.Bool.{Bool, true, false, false≢true, ◌&&◌}
use mathlib.Core.List.{List, [], ◌∷◌}
use Prim.Native.Nat.{ℕ, zero, suc, ◌<◌}
use native.Mathlib.Nat.{not-suc-le-zero, le_of_suc-le-suc}
use lib.ListN.{length, get_or}
use Rattle.std.specs.Float.{float_is_finite, float_with_sign}
use lib.Ieee.{Float, nan, inf, fin}
use Rattle.bits.proofs.Passing.{Tests}
use Rattle.soft.specs.Reliability.{is_finite, all_finite, magnitude}

-- ---- std's words are these
pub finite_same : (x : Float) → float_is_finite x ≡ is_finite x
unfolding float_is_finite is_finite
finite_same nan = refl
finite_same (inf s) = refl
finite_same (fin s m e) = refl

pub magnitude_same : (x : Float) → float_with_sign false x ≡ magnitude x
unfolding float_with_sign magnitude
magnitude_same nan = refl
magnitude_same (inf s) = refl
magnitude_same (fin s m e) = refl

-- ---- as a test of each value
pub finite_tests : Tests all_finite is_finite
unfolding all_finite
finite_tests = record { none = refl; one = λ x l. refl }

-- each of finite values is
pub finite_each : (l : List Float) → all_finite l ≡ true → (i : ℕ) → i < length l → is_finite (get_or l i nan) ≡ true
unfolding all_finite
finite_each [] h i b = absurd (not-suc-le-zero b)
finite_each (x ∷ l) h zero b = here (is_finite x) (all_finite l) h
  where
    here : (p q : Bool) → (p && q) ≡ true → p ≡ true
    here true q e = refl
    here false q e = e
finite_each (x ∷ l) h (suc i) b = finite_each l (there (is_finite x) (all_finite l) h) i (le_of_suc-le-suc b)
  where
    there : (p q : Bool) → (p && q) ≡ true → q ≡ true
    there true q e = e
    there false q e = absurd (false≢true e)
