-- The loop that tests each element of a list: r says whether those below k pass. Assumes nothing.
use mathlib.Core.Path.{◌≡◌, refl, sym, ap, ◌∙◌}
use mathlib.Core.Bool.{Bool, true, false, ◌&&◌}
use mathlib.Core.List.{List, [], ◌∷◌}
use Prim.Native.Nat.{ℕ, suc, ◌+◌, ◌≤◌, ◌<◌}
use native.Mathlib.Numerals.{add-one}
use native.Mathlib.Omega.{arith}
use lib.ListN.{length, get_or, drop, drop_of_length-le}
use lib.Seq.{drop-cons}

and_assoc : (a b c : Bool) → (a && (b && c)) ≡ ((a && b) && c)
and_assoc true b c = refl
and_assoc false b c = refl

and_true : (a : Bool) → (a && true) ≡ a
and_true true = refl
and_true false = refl

-- all: whether each element passes the test
pub record Tests {A : Type 0} (all : List A → Bool) (test : A → Bool) : Type 0 where
  pub none : all [] ≡ true
  pub one : (x : A) (l : List A) → all (x ∷ l) ≡ (test x && all l)

pub record Testing {A : Type 0} (all : List A → Bool) (l : List A) (r : Bool) (k : ℕ) : Type 0 where
  pub low : k ≤ length l
  pub rest : all l ≡ (r && all (drop k l))

module _ {A : Type 0} {all : List A → Bool} {test : A → Bool} (ts : Tests all test) {l : List A} {r : Bool} {k : ℕ} (i : Testing all l r k) where
  pub testing_more : (d : A) {q s : Bool} → k < length l → q ≡ test (get_or l k d) → s ≡ (r && q) → Testing all l s (k + 1)
  testing_more d {q} {s} h e f =
      record {
        low = omega arith;
        rest =
            i.rest
            ∙ ap (λ (t : Bool). r && t)
            (ap all (drop-cons l k d h) ∙ ts.one (get_or l k d) (drop (suc k) l) ∙ ap (λ (t : Bool). t && all (drop (suc k) l)) (sym e))
            ∙ and_assoc r q _ ∙ ap (λ (t : Bool). t && all (drop (suc k) l)) (sym f) ∙ ap (λ (n : ℕ). s && all (drop n l)) (sym (add-one k));
      }

  pub testing_done : length l ≤ k → r ≡ all l
  testing_done h = sym (i.rest ∙ ap (λ (t : List A). r && all t) (drop_of_length-le l h) ∙ ap (λ (t : Bool). r && t) ts.none ∙ and_true r)
