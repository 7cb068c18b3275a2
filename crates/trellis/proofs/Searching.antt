-- Laws of what a search finds: there is one first word, and the same words with the same weights have the same answer. Assumes nothing.
use mathlib.Core.Path.{◌≡◌, ◌∙◌}
use mathlib.Core.Bool.{Bool}
use mathlib.Core.List.{List}
use Prim.Native.Nat.{ℕ}
use native.Mathlib.Omega.{arith}
use lib.ListN.{length}
use Rattle.trellis.specs.Search.{Nearest, Ambiguous, Found, First, FoundFirst}
use Rattle.trellis.specs.declared.Outcome.{Outcome}
use Rattle.trellis.proofs.Order.{precedes_both}

-- there is one first word of a length
pub first_unique : {Word : List Bool → Type 0} {weight : List Bool → ℕ} (u w : List Bool) → length u ≡ length w → First Word weight u → First Word weight w → u ≡ w
first_unique u w l p q = precedes_both u w l (p.first w q.nearest) (q.first u p.nearest)

-- nearest words weigh the same
pub nearest_same : {Word : List Bool → Type 0} {weight : List Bool → ℕ} {u w : List Bool} → Nearest Word weight u → Nearest Word weight w → weight u ≡ weight w
nearest_same {u = u} {w = w} p q = omega (arith, p.least w q.word, q.least u p.word)

-- where no two words share the least weight there is one nearest word
pub alone_unique : {Word : List Bool → Type 0} {weight : List Bool → ℕ} (u w : List Bool) → (Ambiguous Word weight → ⊥) → Nearest Word weight u → Nearest Word weight w → Dec (u ≡ w) → u ≡ w
alone_unique u w none p q (yes e) = e
alone_unique u w none p q (no n) = absurd (none (record { one = u; other = w; one_nearest = p; other_nearest = q; distinct = n }))

-- the same words with the same weights
module _ {Word Word' : List Bool → Type 0} {weight weight' : List Bool → ℕ} (to : (u : List Bool) → Word u → Word' u) (from : (u : List Bool) → Word' u → Word u)
    (same : (u : List Bool) → Word u → weight u ≡ weight' u) where
  nearest_to : (w : List Bool) → Nearest Word weight w → Nearest Word' weight' w
  nearest_to w n = record { word = to w n.word; least = λ u h. omega (arith, n.least u (from u h), same u (from u h), same w n.word) }

  nearest_from : (w : List Bool) → Nearest Word' weight' w → Nearest Word weight w
  nearest_from w n = record { word = from w n.word; least = λ u h. omega (arith, n.least u (to u h), same u h, same w (from w n.word)) }

  ambiguous_to : Ambiguous Word weight → Ambiguous Word' weight'
  ambiguous_to a =
      record {
        one = a.one;
        other = a.other;
        one_nearest = nearest_to a.one a.one_nearest;
        other_nearest = nearest_to a.other a.other_nearest;
        distinct = a.distinct;
      }

  ambiguous_from : Ambiguous Word' weight' → Ambiguous Word weight
  ambiguous_from a =
      record {
        one = a.one;
        other = a.other;
        one_nearest = nearest_from a.one a.one_nearest;
        other_nearest = nearest_from a.other a.other_nearest;
        distinct = a.distinct;
      }

  pub found_to : (bits : List ℕ) (r : Outcome) → Found Word weight bits r → Found Word' weight' bits r
  found_to bits r f =
      record {
        word = f.word;
        written = f.written;
        nearest = nearest_to f.word f.nearest;
        metric = f.metric ∙ same f.word f.nearest.word;
        tied = λ t. ambiguous_to (f.tied t);
        alone = λ a. f.alone (ambiguous_from a);
      }

  pub first_to : (w : List Bool) → First Word weight w → First Word' weight' w
  first_to w f = record { nearest = nearest_to w f.nearest; first = λ u n. f.first u (nearest_from u n) }

  pub found_first_to : (bits : List ℕ) (r : Outcome) → FoundFirst Word weight bits r → FoundFirst Word' weight' bits r
  unfolding found_to
  found_first_to bits r f = record { found = found_to bits r f.found; first = first_to f.found.word f.first }
