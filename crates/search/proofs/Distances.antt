-- The loops of `add_differences` and `sums`: what is added below a place, and what is counted below a generator and what is left. Assumes nothing.
use mathlib.Core.Path.{◌≡◌, sym, ap, ap₂, ◌∙◌}
use mathlib.Core.List.{List, [], ◌∷◌}
use Prim.Native.Nat.{ℕ, ◌+◌, ◌<◌, ◌≤◌}
use native.Mathlib.Omega.{arith}
use native.Mathlib.Numerals.{add-one}
use lib.ListN.{length, get_or, drop, drop_of_length-le}
use lib.Seq.{drop-cons}
use Rattle.bits.specs.Bits.{bit, tally}
use Rattle.bits.specs.Observed.{erased_differ}
use Rattle.bits.proofs.Erased.{erased_le}
use Rattle.bits.proofs.Filled.{Filling}
use Rattle.search.specs.Row.{distance_at}

-- ---- one generator: the sums below a place are done, the others as they were
abbrev pub added : List ℕ → ℕ → List ℕ → ℕ → ℕ
added output received sums place = get_or sums place 0 + erased_differ (bit (get_or output place 0)) received

pub record Adding (output : List ℕ) (received : ℕ) (sums₀ sums : List ℕ) (k : ℕ) : Type 0 where
  pub done : Filling (λ i x. x ≡ added output received sums₀ i) 0 64 sums k
  pub kept : (i : ℕ) → k ≤ i → get_or sums i 0 ≡ get_or sums₀ i 0

-- ---- all generators
pub record Counting (outputs : List (List ℕ)) (received sums : List ℕ) (i : ℕ) : Type 0 where
  pub low : i ≤ length outputs
  pub few : (place : ℕ) → place < 64 → get_or sums place 0 ≤ i
  pub rest : (place : ℕ) → place < 64 → distance_at outputs received place ≡ get_or sums place 0 + distance_at (drop i outputs) (drop i received) place

pub counting_none : (outputs : List (List ℕ)) (received sums : List ℕ) → ((place : ℕ) → place < 64 → get_or sums place 0 ≡ 0) → Counting outputs received sums 0
counting_none outputs received sums e =
    record { low = omega arith; few = λ p h. omega (arith, e p h); rest = λ p h. omega (arith, e p h) }

module _ {outputs : List (List ℕ)} {received sums : List ℕ} {i : ℕ} (c : Counting outputs received sums i) where
  pub counting_more : (new : List ℕ) → i < length outputs → i < length received
      → ((place : ℕ) → place < 64 → get_or new place 0 ≡ added (get_or outputs i []) (get_or received i 0) sums place) → Counting outputs received new (i + 1)
  unfolding distance_at tally
  counting_more new h g e =
      let o : drop i outputs ≡ get_or outputs i [] ∷ drop (i + 1) outputs = drop-cons outputs i [] h ∙ ap (λ (k : ℕ). get_or outputs i [] ∷ drop k outputs) (sym (add-one i)) in
      let r : drop i received ≡ get_or received i 0 ∷ drop (i + 1) received = drop-cons received i 0 g ∙ ap (λ (k : ℕ). get_or received i 0 ∷ drop k received) (sym (add-one i)) in
      let one : (place : ℕ) → distance_at (drop i outputs) (drop i received) place ≡ erased_differ (bit (get_or (get_or outputs i []) place 0)) (get_or received i 0) + distance_at (drop (i + 1) outputs) (drop (i + 1) received) place =
      λ place. ap₂ (λ (a : List (List ℕ)) (b : List ℕ). distance_at a b place) o r in
      record {
        low = omega arith;
        few = λ p b. omega (arith, e p b, c.few p b, erased_le (bit (get_or (get_or outputs i []) p 0)) (get_or received i 0));
        rest = λ p b. c.rest p b ∙ omega (arith, one p, e p b);
      }

  pub counting_done : length outputs ≤ i → (place : ℕ) → place < 64 → get_or sums place 0 ≡ distance_at outputs received place
  unfolding distance_at tally
  counting_done h place b =
      let none : distance_at (drop i outputs) (drop i received) place ≡ 0 = ap (λ (l : List (List ℕ)). distance_at l (drop i received) place) (drop_of_length-le outputs h) in
      omega (arith, c.rest place b)
