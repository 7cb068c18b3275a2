-- What is found among the words of A and among those of B is found among both: the better of the two answers. Assumes nothing.
use mathlib.Core.Path.{◌≡◌, refl, sym, subst, ◌∙◌}
use mathlib.Core.Bool.{Bool, true}
use mathlib.Core.List.{List}
use mathlib.Core.Logic.{◌⊎◌, inl, inr}
use Prim.Native.Nat.{ℕ, ◌<◌, ◌≤◌}
use native.Mathlib.Omega.{arith}
use native.Mathlib.Decide.{dec_lt}
use borrow.Author.Tests.{lt-ltb, le-ltb}
use Rattle.trellis.specs.Search.{Nearest, Ambiguous, Found}
use Rattle.trellis.specs.declared.Outcome.{Outcome}
use Rattle.trellis.proofs.Searching.{nearest_same}
use Rattle.tailbiting.specs.Starts.{better_of, kept_of}

-- C is the words of A and those of B
pub record Both (A B C : List Bool → Type 0) : Type 0 where
  pub left : (u : List Bool) → A u → C u
  pub right : (u : List Bool) → B u → C u
  pub split : (u : List Bool) → C u → A u ⊎ B u

pub exchanged : {A B C : List Bool → Type 0} → Both A B C → Both B A C
exchanged {A} {B} b = record { left = b.right; right = b.left; split = λ u h. swap (b.split u h) }
  where
    swap : {P Q : Type 0} → P ⊎ Q → Q ⊎ P
    swap (inl p) = inr p
    swap (inr q) = inl q

module _ {A B C : List Bool → Type 0} {weight : List Bool → ℕ} (b : Both A B C) where
  -- a word of A that weighs no more than those of B
  wider : (m : ℕ) (w : List Bool) → Nearest A weight w → weight w ≡ m → ((u : List Bool) → B u → m ≤ weight u) → Nearest C weight w
  wider m w n e h = record { word = b.left w n.word; least = λ u c. go u (b.split u c) }
    where
      go : (u : List Bool) → A u ⊎ B u → weight w ≤ weight u
      go u (inl a) = n.least u a
      go u (inr x) = omega (arith, h u x, e)

  -- every word of B weighs more than what was found in A
  pub found_alone : {bits : List ℕ} {r : Outcome} → Found A weight bits r → ((u : List Bool) → B u → r.metric < weight u) → Found C weight bits r
  found_alone {bits} {r} f h =
      record {
        word = f.word;
        written = f.written;
        nearest = near f.word f.nearest;
        metric = f.metric;
        tied = λ t. let a : Ambiguous A weight = f.tied t in
            record { one = a.one; other = a.other; one_nearest = near a.one a.one_nearest; other_nearest = near a.other a.other_nearest; distinct = a.distinct };
        alone = λ c. f.alone
            (record { one = c.one; other = c.other; one_nearest = back c.one c.one_nearest; other_nearest = back c.other c.other_nearest; distinct = c.distinct });
      }
    where
      near : (w : List Bool) → Nearest A weight w → Nearest C weight w
      near w n = wider r.metric w n (nearest_same n f.nearest ∙ sym f.metric) (λ u x. omega (arith, h u x))

      back : (w : List Bool) → Nearest C weight w → Nearest A weight w
      back w n = record { word = go (b.split w n.word); least = λ u a. n.least u (b.left u a) }
        where
          go : A w ⊎ B w → A w
          go (inl a) = a
          go (inr x) = let z : ⊥ = omega (arith, h w x, n.least f.word (b.left f.word f.nearest.word), f.metric) in absurd z

module _ {A B C : List Bool → Type 0} {weight : List Bool → ℕ} (b : Both A B C) {inputs word : List ℕ} {best run : Outcome} (f : Found A weight inputs best) (g : Found B weight word run) where
  above : (m : ℕ) → m < run.metric → (u : List Bool) → B u → m < weight u
  above m h u x = omega (arith, g.nearest.least u x, g.metric)

  above_best : (m : ℕ) → m < best.metric → (u : List Bool) → A u → m < weight u
  above_best m h u x = omega (arith, f.nearest.least u x, f.metric)

  -- a word of each has the least metric
  even : ((u : List Bool) → A u → B u → ⊥) → best.metric ≡ run.metric → Found C weight inputs (record { metric = best.metric; tie = true })
  even apart e =
      let near : Nearest C weight f.word = wider b best.metric f.word f.nearest (sym f.metric) (λ u x. omega (arith, g.nearest.least u x, g.metric)) in
      record {
        word = f.word;
        written = f.written;
        nearest = near;
        metric = f.metric;
        tied = λ t. record {
          one = f.word;
          other = g.word;
          one_nearest = near;
          other_nearest = wider (exchanged b) run.metric g.word g.nearest (sym g.metric) (λ u x. omega (arith, f.nearest.least u x, f.metric));
          distinct = λ q. apart g.word (subst A q f.nearest.word) g.nearest.word;
        };
        alone = λ c. refl;
      }

  pub found_better : ((u : List Bool) → A u → B u → ⊥) → Found C weight (kept_of best run word inputs) (better_of best run)
  unfolding better_of kept_of
  found_better apart = go (dec_lt run.metric best.metric) (dec_lt best.metric run.metric)
    where
      go : Dec (run.metric < best.metric) → Dec (best.metric < run.metric) → Found C weight (kept_of best run word inputs) (better_of best run)
      go (yes l) d = rw (lt-ltb run.metric best.metric l) (found_alone (exchanged b) g (above_best run.metric l))
      go (no l) (yes m) = rw (le-ltb run.metric best.metric (omega arith), lt-ltb best.metric run.metric m) (found_alone b f (above best.metric m))
      go (no l) (no m) = rw (le-ltb run.metric best.metric (omega arith), le-ltb best.metric run.metric (omega arith)) (even apart (omega arith))

-- ---- the ways out of `better`
module _ (best run : Outcome) (word inputs : List ℕ) where
  -- the word was copied over the inputs
  pub run_less : (copied : List ℕ) → run.metric < best.metric → copied ≡ word → (run ≡ better_of best run) × (copied ≡ kept_of best run word inputs)
  unfolding better_of kept_of
  run_less copied h e = (rw (lt-ltb run.metric best.metric h), rw (lt-ltb run.metric best.metric h) e)

  pub best_less : best.metric < run.metric → (best ≡ better_of best run) × (inputs ≡ kept_of best run word inputs)
  unfolding better_of kept_of
  best_less h =
      (rw (le-ltb run.metric best.metric (omega arith), lt-ltb best.metric run.metric h), rw (le-ltb run.metric best.metric (omega arith)))

  pub both_even : best.metric ≤ run.metric → run.metric ≤ best.metric → (record { metric = best.metric; tie = true } ≡ better_of best run) × (inputs ≡ kept_of best run word inputs)
  unfolding better_of kept_of
  both_even h g = (rw (le-ltb run.metric best.metric h, le-ltb best.metric run.metric g), rw (le-ltb run.metric best.metric h))
