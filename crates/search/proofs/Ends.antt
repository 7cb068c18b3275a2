-- One ending more keeps the lowest. Assumes nothing.
use mathlib.Core.Path.{◌≡◌, refl, sym, ap, subst, ◌∙◌}
use mathlib.Core.Bool.{Bool, true, false, false≢true, ◌||◌}
use mathlib.Core.List.{List}
use Prim.Native.Nat.{ℕ, ◌+◌, ◌<◌, ◌≤◌}
use native.Mathlib.Omega.{arith}
use native.Mathlib.Decide.{ℕ_discrete, dec_lt}
use native.Mathlib.Nat.{le_refl}
use lib.ListN.{get_or}
use lib.Dec.{eqb}
use borrow.Author.Tests.{lt-ltb, le-ltb}
use Rattle.std.proofs.lemmas.Bool.{eq-eqb, ne_eqb}
use Rattle.search.specs.Ends.{lower_of, Other, LowestEnd}
use Rattle.search.specs.declared.free.End.{End}

pub less : (d : End) (m : ℕ) (s : ℕ) → m < d.outcome.metric → record { outcome = record { metric = m; tie = false }; state = s } ≡ lower_of d m s
unfolding lower_of
less d m s h = rw (lt-ltb m d.outcome.metric h)

pub more : (d : End) (m : ℕ) (s : ℕ) → d.outcome.metric < m → d ≡ lower_of d m s
unfolding lower_of
more d m s h = rw (le-ltb m d.outcome.metric (omega arith), lt-ltb d.outcome.metric m h)

pub even : (d : End) (m : ℕ) (s : ℕ) → d.outcome.metric ≤ m → m ≤ d.outcome.metric → record { outcome = record { metric = d.outcome.metric; tie = true }; state = d.state } ≡ lower_of d m s
unfolding lower_of
even d m s h g = rw (le-ltb m d.outcome.metric h, le-ltb d.outcome.metric m g)

-- one that is not less leaves the end, and is a tie where it is as low
pub kept : (d : End) (m : ℕ) (s : ℕ) → d.outcome.metric ≤ m
    → record { outcome = record { metric = d.outcome.metric; tie = d.outcome.tie || eqb m d.outcome.metric }; state = d.state } ≡ lower_of d m s
kept d m s h = go (dec_lt d.outcome.metric m)
  where
    with_tie : Bool → End
    with_tie t = record { outcome = record { metric = d.outcome.metric; tie = t }; state = d.state }

    or_false : (t : Bool) → (t || false) ≡ t
    or_false true = refl
    or_false false = refl

    or_true : (t : Bool) → (t || true) ≡ true
    or_true true = refl
    or_true false = refl

    go : Dec (d.outcome.metric < m) → with_tie (d.outcome.tie || eqb m d.outcome.metric) ≡ lower_of d m s
    go (yes g) =
        ap with_tie (ap (λ (t : Bool). d.outcome.tie || t) (ne_eqb m d.outcome.metric (λ e. let z : ⊥ = omega arith in z)) ∙ or_false d.outcome.tie)
        ∙ more d m s g
    go (no g) =
        ap with_tie (ap (λ (t : Bool). d.outcome.tie || t) (eq-eqb m d.outcome.metric (omega arith)) ∙ or_true d.outcome.tie)
        ∙ even d m s h (omega arith)

module _ (ms : List ℕ) where
  module _ (k : ℕ) (d : End) (i : LowestEnd ms k d) where
    -- an ending is one of those before, or the new one
    split : (j : ℕ) → j < k + 1 → (x : ℕ) → x ≤ get_or ms k 0 → x ≤ d.outcome.metric → x ≤ get_or ms j 0
    split j h x p q = go (ℕ_discrete j k)
      where
        go : Dec (j ≡ k) → x ≤ get_or ms j 0
        go (yes e) = subst (λ (y : ℕ). x ≤ get_or ms y 0) (sym e) p
        go (no n) = omega (arith, i.least j (omega arith))

    lower_new : get_or ms k 0 < d.outcome.metric → LowestEnd ms (k + 1) (record { outcome = record { metric = get_or ms k 0; tie = false }; state = k })
    lower_new h =
        record {
          low = omega arith;
          exact = refl;
          least = λ j hj. split j hj (get_or ms k 0) (le_refl _) (omega arith);
          shared = λ e. absurd (false≢true e);
          other = λ o. let z : ⊥ = omega (arith, i.least o.at (omega (arith, o.low, o.apart)), o.same) in absurd z;
        }

    wider : (t : Bool) → Other ms k d → Other ms (k + 1) (record { outcome = record { metric = d.outcome.metric; tie = t }; state = d.state })
    wider t o = record { at = o.at; low = omega (arith, o.low); same = o.same; apart = o.apart }

    lower_old : d.outcome.metric < get_or ms k 0 → LowestEnd ms (k + 1) d
    lower_old h =
        record {
          low = omega (arith, i.low);
          exact = i.exact;
          least = λ j hj. split j hj d.outcome.metric (omega arith) (le_refl _);
          shared = λ t. wider d.outcome.tie (i.shared t);
          other = λ o. i.other (record { at = o.at; low = below o; same = o.same; apart = o.apart });
        }
      where
        below : (o : Other ms (k + 1) d) → o.at < k
        below o = step (ℕ_discrete o.at k)
          where
            step : Dec (o.at ≡ k) → o.at < k
            step (yes e) =
                let q : get_or ms o.at 0 ≡ get_or ms k 0 = ap (λ (x : ℕ). get_or ms x 0) e in
                let z : ⊥ = omega (arith, o.same) in absurd z
            step (no n) = omega (arith, o.low)

    lower_even : d.outcome.metric ≡ get_or ms k 0 → LowestEnd ms (k + 1) (record { outcome = record { metric = d.outcome.metric; tie = true }; state = d.state })
    lower_even h =
        record {
          low = omega (arith, i.low);
          exact = i.exact;
          least = λ j hj. split j hj d.outcome.metric (omega arith) (le_refl _);
          shared = λ t. record { at = k; low = omega arith; same = sym h; apart = λ e. let z : ⊥ = omega (arith, i.low) in z };
          other = λ o. refl;
        }

    pub lowest_more : LowestEnd ms (k + 1) (lower_of d (get_or ms k 0) k)
    lowest_more = go (dec_lt (get_or ms k 0) d.outcome.metric) (dec_lt d.outcome.metric (get_or ms k 0))
      where
        go : Dec (get_or ms k 0 < d.outcome.metric) → Dec (d.outcome.metric < get_or ms k 0) → LowestEnd ms (k + 1) (lower_of d (get_or ms k 0) k)
        go (yes l) e = subst (λ (x : End). LowestEnd ms (k + 1) x) (less d (get_or ms k 0) k l) (lower_new l)
        go (no l) (yes g) = subst (λ (x : End). LowestEnd ms (k + 1) x) (more d (get_or ms k 0) k g) (lower_old g)
        go (no l) (no g) = subst (λ (x : End). LowestEnd ms (k + 1) x) (even d (get_or ms k 0) k (omega arith) (omega arith)) (lower_even (omega arith))
