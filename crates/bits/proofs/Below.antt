-- Lists of numbers below a limit: what the test of them says of its parts and places, and what gives it. Assumes nothing.
use mathlib.Core.Path.{◌≡◌, refl, sym, ap₂, ◌∙◌}
use mathlib.Core.Bool.{Bool, true, false, cond, ◌&&◌, false≢true}
use mathlib.Core.List.{List, [], ◌∷◌}
use Prim.Native.Nat.{ℕ, zero, suc, ◌<◌}
use native.Mathlib.Omega.{arith}
use native.Mathlib.Nat.{not-suc-le-zero}
use lib.Dec.{ltb, eqb}
use lib.ListN.{length, get_or, set, take, drop}
use borrow.Author.Tests.{ltb-true, lt-ltb}
use Rattle.std.proofs.Common.{Equal, Greater, Less, Some}
use Rattle.std.specs.Ordering.{is_lt, nat_cmp}
use Rattle.bits.specs.Bits.{all_below, all_less}

pub cond_and : (a b : Bool) → cond a b false ≡ (a && b)
cond_and true b = refl
cond_and false b = refl

pub cond_true : (a b : Bool) → cond a b false ≡ true → (a ≡ true) × (b ≡ true)
cond_true true b e = (refl, e)
cond_true false b e = absurd (false≢true e)

-- the order of numbers, as code compares them
less_ltb : (a b : Bool) → is_lt (cond a Less (cond b Equal Greater)) ≡ a
less_ltb true b = refl
less_ltb false true = refl
less_ltb false false = refl

module _ (n : ℕ) where
  pub below_less : (l : List ℕ) → all_less (λ (a b : ℕ). Some (nat_cmp a b)) n l ≡ all_below n l
  unfolding all_below all_less
  below_less [] = refl
  below_less (x ∷ l) = ap₂ ◌&&◌ (less_ltb (ltb x n) (eqb x n)) (below_less l) ∙ sym (cond_and (ltb x n) (all_below n l))

  pub below_none : all_below n [] ≡ true
  unfolding all_below
  below_none = refl

  -- the first, and the others
  pub below_head : (x : ℕ) (l : List ℕ) → all_below n (x ∷ l) ≡ true → x < n
  unfolding all_below
  below_head x l e = ltb-true x n (cond_true (ltb x n) (all_below n l) e).0

  pub below_tail : (x : ℕ) (l : List ℕ) → all_below n (x ∷ l) ≡ true → all_below n l ≡ true
  unfolding all_below
  below_tail x l e = (cond_true (ltb x n) (all_below n l) e).1

  pub below_cons : (x : ℕ) (l : List ℕ) → x < n → all_below n (x ∷ l) ≡ all_below n l
  unfolding all_below
  below_cons x l h = rw (lt-ltb x n h)

  -- by index
  pub below_at : (l : List ℕ) → all_below n l ≡ true → (k : ℕ) → k < length l → get_or l k 0 < n
  below_at [] e k h = absurd (not-suc-le-zero h)
  below_at (x ∷ l) e zero h = below_head x l e
  below_at (x ∷ l) e (suc k) h = below_at l (below_tail x l e) k (omega arith)

  pub below_all : (l : List ℕ) → ((k : ℕ) → k < length l → get_or l k 0 < n) → all_below n l ≡ true
  below_all [] h = below_none
  below_all (x ∷ l) h = below_cons x l (h 0 (omega arith)) ∙ below_all l (λ k b. h (suc k) (omega arith))

  -- ---- parts of a list, and a store
  pub below_take : (m : ℕ) (l : List ℕ) → all_below n l ≡ true → all_below n (take m l) ≡ true
  below_take zero l e = below_none
  below_take (suc m) [] e = below_none
  below_take (suc m) (x ∷ l) e = below_cons x (take m l) (below_head x l e) ∙ below_take m l (below_tail x l e)

  pub below_drop : (m : ℕ) (l : List ℕ) → all_below n l ≡ true → all_below n (drop m l) ≡ true
  below_drop zero l e = e
  below_drop (suc m) [] e = below_none
  below_drop (suc m) (x ∷ l) e = below_drop m l (below_tail x l e)

  pub below_set : (l : List ℕ) (i x : ℕ) → all_below n l ≡ true → x < n → all_below n (set l i x) ≡ true
  below_set [] i x t h = t
  below_set (y ∷ l) zero x t h = below_cons x l h ∙ below_tail y l t
  below_set (y ∷ l) (suc i) x t h = below_cons y (set l i x) (below_head y l t) ∙ below_set l i x (below_tail y l t) h
