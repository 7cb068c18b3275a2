-- The starts of the search, tried in turn. A state has its newest input lowest.
use Rattle.std.specs.Prelude.{◌≡◌, Bool, true, cond, List, ℕ, ◌+◌, ◌-◌, ◌%◌, ◌<◌, ◌≤◌, ltb, length, get_or}
use Rattle.trellis.specs.Numbering.{newest_low}
use Rattle.trellis.specs.Words.{state_after, word_metric}
use Rattle.trellis.specs.declared.Outcome.{Outcome}

-- the state where a word of five or more inputs ends, wherever it starts
unfoldable pub end_of : List Bool → ℕ
end_of u = state_after newest_low 0 u

-- the metric of a word from the state where it ends
unfoldable pub tail_metric : (ℕ → ℕ → Bool → ℕ) → List Bool → ℕ
tail_metric branch u = word_metric newest_low branch (end_of u) u

-- no word weighs less than the bound of the state where it ends
abbrev pub Bounds : (ℕ → ℕ → Bool → ℕ) → List ℕ → Type 0
Bounds branch bounds = (u : List Bool) → length u ≡ 65 → get_or bounds (end_of u) 0 ≤ tail_metric branch u

-- when a state is tried: `first` before all, then those above it, and round
abbrev pub turn_of : ℕ → ℕ → ℕ
turn_of first s = (s + 32 - first) % 32

-- the words whose start is one of the first k tried
pub record Tried (first k : ℕ) (u : List Bool) : Type 0 where
  pub steps : length u ≡ 65
  pub early : turn_of first (end_of u) < k

-- the better of two answers about words of two starts; two of one metric are a tie
unfoldable pub better_of : Outcome → Outcome → Outcome
better_of best run = cond (ltb run.metric best.metric) run (cond (ltb best.metric run.metric) best (record { metric = best.metric; tie = true }))

-- and its word: `word` is that of the run, `inputs` that of the best so far
unfoldable pub kept_of : Outcome → Outcome → List ℕ → List ℕ → List ℕ
kept_of best run word inputs = cond (ltb run.metric best.metric) word inputs
