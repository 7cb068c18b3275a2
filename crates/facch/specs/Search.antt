-- The search for the nearest word over the observed bits (IS-54-B 2.7.3.1.1). A word is its 65 bits, oldest first.
use Rattle.std.specs.Prelude.{◌≡◌, Bool, true, List, ℕ}
use Rattle.bits.specs.Bits.{bytes, tally}
use Rattle.trellis.specs.Search.{Nearest, Ambiguous}
use Rattle.trellis.specs.Words.{OfLength}
use Rattle.trellis.specs.declared.Outcome.{Outcome}
use Rattle.bits.specs.Observed.{erased_differ}
use Rattle.facch.specs.Words.{tail_biting}

-- the disagreements of a word over the observed bits
unfoldable pub weight : List ℕ → List Bool → ℕ
weight received w = tally erased_differ (tail_biting w) received

-- what the search writes: a nearest word, as bytes, its weight, and whether another weighs as little
pub record Searched (received word : List ℕ) (r : Outcome) : Type 0 where
  pub bits : List Bool
  pub written : word ≡ bytes bits
  pub nearest : Nearest (OfLength 65) (weight received) bits
  pub metric : r.metric ≡ weight received bits
  pub tied : r.tie ≡ true → Ambiguous (OfLength 65) (weight received)
  pub alone : Ambiguous (OfLength 65) (weight received) → r.tie ≡ true
