-- What can be stepped. Assumes nothing.
use mathlib.Core.Path.{◌≡◌, refl, sym, ap, ◌∙◌}
use mathlib.Core.Bool.{Bool, true, false, cond}
use mathlib.Core.List.{List, [], ◌∷◌, ◌++◌}
use Prim.Native.Nat.{ℕ, ◌<◌, ◌≤◌, min}
use native.Mathlib.Omega.{arith}
use lib.Dec.{ltb}
use lib.ListN.{length, take, drop, replicate}
use borrow.Author.Tests.{ltb-false}
use Rattle.std.specs.Prelude.{Ok, Err}
use Rattle.bits.specs.Arguments.{Arguments}
use Rattle.bits.specs.declared.Refusal.{Refusal}
use Rattle.bits.specs.declared.Refusal.TheVariants.{State}
use Rattle.bits.proofs.Refusing.{never_both}
use Rattle.flat_coding.specs.Flat.{step_arguments}

-- ---- Ok says that every test was passed
passed : (t : Bool) (why : Refusal) (x : Arguments) → cond t (Err why) x ≡ Ok tt → (t ≡ false) × (x ≡ Ok tt)
passed true why x e = never_both e refl
passed false why x e = (refl, e)

pub passed_state : (state input : ℕ) → step_arguments state input ≡ Ok tt → state < 32
unfolding step_arguments
passed_state state input e =
    let h : state ≤ 31 = ltb-false 31 state (passed (ltb 31 state) State _ e).0 in
    omega arith

-- ---- up to four outputs are copied over zeros
pub first_four : {n k : ℕ} (xs : List ℕ) → length xs ≡ n → k ≡ min n 4 → take k xs ++ drop k (replicate 4 0) ≡ take 4 (xs ++ replicate 4 0)
first_four {n} {k} xs long kept = by xs (kept ∙ ap (λ (m : ℕ). min m 4) (sym long))
  where
    by : (l : List ℕ) → k ≡ min (length l) 4 → take k l ++ drop k (replicate 4 0) ≡ take 4 (l ++ replicate 4 0)
    by [] e = rw e refl
    by (a ∷ []) e = rw e refl
    by (a ∷ b ∷ []) e = rw e refl
    by (a ∷ b ∷ c ∷ []) e = rw e refl
    by (a ∷ b ∷ c ∷ d ∷ l) e = let four : k ≡ 4 = omega (arith, e) in rw four refl
