-- The lesser candidate, and the ways out of `decide` and `tie_mark`. Assumes nothing.
use mathlib.Core.Path.{◌≡◌, refl}
use mathlib.Core.Bool.{Bool, true, false, cond}
use Prim.Native.Nat.{ℕ, ◌<◌, ◌≤◌, min}
use native.Mathlib.Omega.{arith}
use native.Mathlib.Decide.{dec_lt}
use lib.Dec.{ltb, eqb}
use Rattle.search.specs.Select.{lesser_of, decide_of, tie_mark_of}
use borrow.Author.Tests.{lt-ltb, le-ltb, eq-eqb, ne_eqb}

module _ (lower upper : ℕ) where
  pub lesser_min : min lower upper ≡ lesser_of lower upper
  unfolding lesser_of
  lesser_min = go (dec_lt upper lower)
    where
      go : Dec (upper < lower) → min lower upper ≡ cond (ltb upper lower) upper lower
      go (yes h) = let e : min lower upper ≡ upper = omega arith in rw (lt-ltb upper lower h) e
      go (no h) = let e : min lower upper ≡ lower = omega arith in rw (le-ltb upper lower (omega arith)) e

  pub decide_upper : upper < lower → 16 ≡ decide_of lower upper
  unfolding decide_of
  decide_upper h = rw (lt-ltb upper lower h) refl

  pub decide_lower : lower ≤ upper → 0 ≡ decide_of lower upper
  unfolding decide_of
  decide_lower h = rw (le-ltb upper lower h) refl

  pub mark_set : lower ≡ upper → 96 ≡ tie_mark_of lower upper
  unfolding tie_mark_of
  mark_set h = rw (eq-eqb lower upper h) refl

  pub mark_none : (lower ≡ upper → ⊥) → 0 ≡ tie_mark_of lower upper
  unfolding tie_mark_of
  mark_none n = rw (ne_eqb lower upper n) refl

  pub decide_le : decide_of lower upper ≤ 16
  unfolding decide_of
  decide_le = go (ltb upper lower)
    where
      go : (d : Bool) → cond d 16 0 ≤ 16
      go true = omega arith
      go false = omega arith

  pub mark_le : tie_mark_of lower upper ≤ 96
  unfolding tie_mark_of
  mark_le = go (eqb lower upper)
    where
      go : (d : Bool) → cond d 96 0 ≤ 96
      go true = omega arith
      go false = omega arith
