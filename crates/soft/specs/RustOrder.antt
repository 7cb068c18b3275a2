-- `viterbi_soft` of 136-bts, dcch.rs, loop by loop. (Its sum of a pair starts from a zero, which adds nothing to a cost that is not negative.)
use Rattle.std.specs.Prelude.{Bool, true, false, cond, List, [], ℕ, zero, suc, ◌/◌, eqb, Float}
use Rattle.std.specs.Float.{inf, binary64}
use Rattle.std.specs.Float.Ieee.{add, lt}
use Rattle.trellis.specs.Numbering.{newest_high}
use Rattle.search.specs.Traceback.{traced}
use Rattle.soft.specs.Reliability.{is_finite}
use Rattle.soft.specs.Branch.{soft_branch, soft_start}

-- what a step has stored so far: `next_metrics` and `predecessors[step]`, by state
pub record Stored : Type 0 where
  pub metric : ℕ → Float
  pub from : ℕ → ℕ

-- an array with one element written
abbrev pub written : {A : Type 0} → (ℕ → A) → ℕ → A → ℕ → A
written f i v j = cond (eqb j i) v (f j)

-- `if candidate < next_metrics[next] { .. }`
unfoldable pub offer : ℕ → ℕ → Float → Stored → Stored
offer state next candidate kept =
    cond (lt candidate (kept.metric next)) (record { metric = written kept.metric next candidate; from = written kept.from next state }) kept

-- one step: m is each state's metric before it, dist the distance from a state by an input
module _ (m : ℕ → Float) (dist : ℕ → Bool → Float) where
  -- `for input in [false, true] { .. }`
  abbrev pub extend : ℕ → Bool → Stored → Stored
  extend state input kept = offer state (newest_high.next state input) (add binary64 (m state) (dist state input)) kept

  -- `for (state, metric) in metrics { if !metric.is_finite() { continue; } .. }`, after the states below k
  unfoldable pub scan : ℕ → Stored
  scan zero = record { metric = λ s. inf false; from = λ s. 0 }
  scan (suc k) = cond (is_finite (m k)) (extend k true (extend k false (scan k))) (scan k)

module _ (values : List Float) where
  unfoldable pub rust_metric : ℕ → ℕ → Float
  rust_metric zero s = soft_start s
  rust_metric (suc k) s = (scan (rust_metric k) (soft_branch values k) 32).metric s

  unfoldable pub rust_from : ℕ → ℕ → ℕ
  rust_from k s = (scan (rust_metric k) (soft_branch values k) 32).from s

-- the newest input that a state holds
abbrev pub highest : ℕ → ℕ
highest t = t / 16

-- the bits read back from state 0
unfoldable pub rust_bits : List Float → ℕ → List ℕ
rust_bits values n = traced highest (rust_from values) n 0 []
