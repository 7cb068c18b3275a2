-- What can be searched, and the answer of a search. Assumes nothing.
use mathlib.Core.Path.{◌≡◌, refl, ◌∙◌}
use mathlib.Core.Bool.{Bool, true, false, cond}
use mathlib.Core.List.{List}
use Prim.Native.Nat.{ℕ, ◌*◌, ◌/◌, ◌%◌, ◌≤◌}
use native.Mathlib.Omega.{arith}
use lib.Dec.{eqb, ltb}
use lib.ListN.{length}
use borrow.Author.Tests.{ltb-true, ltb-false, eqb-true, eqb-false}
use Rattle.bits.specs.Bits.{all_binary}
use Rattle.bits.specs.Arguments.{Arguments, exact_of, binary_of}
use Rattle.bits.proofs.Refusing.{never_both, passed_first, passed_exact, passed_binary}
use Rattle.trellis.specs.declared.Outcome.{Outcome}
use Rattle.std.specs.Prelude.{Ok}
use Rattle.flat_coding.specs.FlatSearch.{pair_arguments, search_arguments, SearchAnswer}

-- ---- Ok says that every test was passed
apart : (n : ℕ) (x : Arguments) (t : Bool) → (t ≡ true → 260 ≡ n → ⊥) → cond t (exact_of 260 n) x ≡ Ok tt → (t ≡ false) × (x ≡ Ok tt)
apart n x true far e = absurd (far refl (passed_exact 260 n e))
apart n x false far e = (refl, e)

passed_pairs : (n : ℕ) → pair_arguments n ≡ Ok tt → (10 ≤ n) × (n ≤ 260) × (n % 2 ≡ 0)
unfolding pair_arguments
passed_pairs n e =
    let a = apart n _ (ltb n 10) (λ t q. omega (arith, ltb-true n 10 t)) e in
    let b = apart n _ (ltb 260 n) (λ t q. omega (arith, ltb-true 260 n t)) a.1 in
    let c = apart n (Ok tt) (eqb (n % 2) 1) (λ t q. omega (arith, eqb-true (n % 2) 1 t)) b.1 in
    let odd : n % 2 ≡ 1 → ⊥ = eqb-false (n % 2) 1 c.0 in
    (ltb-false n 10 a.0, ltb-false 260 n b.0, omega (arith, odd))

pub passed : (coded : List ℕ) (n : ℕ) → search_arguments coded n ≡ Ok tt → (5 ≤ n) × (n ≤ 130) × (length coded ≡ n * 2) × (all_binary coded ≡ true)
passed coded n e =
    let a = passed_first (pair_arguments (length coded)) _ e in
    let b = passed_first (exact_of (length coded / 2) n) (binary_of coded) a.1 in
    let pairs : (10 ≤ length coded) × (length coded ≤ 260) × (length coded % 2 ≡ 0) = passed_pairs (length coded) a.0 in
    let half : length coded / 2 ≡ n = passed_exact (length coded / 2) n b.0 in
    (omega (arith, pairs.0), omega (arith, pairs.1), omega (arith, pairs.2), passed_binary coded b.1)

-- ---- the answers
module _ {Finds : List ℕ → Outcome → Type 0} {coded word₀ : List ℕ} {l : Arguments} (told : l ≡ search_arguments coded (length word₀)) where
  pub by_search : {word : List ℕ} {o : Outcome} → l ≡ Ok tt → Finds word o
      → SearchAnswer Finds coded word₀ word (record { refusal = 0; expected = 0; actual = 0; metric = o.metric; tie = o.tie })
  by_search e f =
      record {
        not_searched = λ y ey. never_both e (told ∙ ey);
        searched = λ ef. (refl, refl, refl, f);
      }
