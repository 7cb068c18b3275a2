-- The forward recursion over the engine's arrays, a step for each symbol.
use Rattle.std.specs.Prelude.{◌≡◌, Bool, true, false, List, [], ℕ, ◌≤◌, ◌<◌, length, get_or}
use Rattle.trellis.specs.Numbering.{pred_low, newest_low}
use Rattle.trellis.specs.Trellis.{Trellis, wholes, state_metric, candidate}
use Rattle.search.specs.Row.{place_of}
use Rattle.search.specs.Select.{byte_of}

-- the step k has the row of its symbol
unfoldable pub branch_by : List (List ℕ) → List ℕ → ℕ → ℕ → Bool → ℕ
branch_by rows symbols k s b = get_or (get_or rows (get_or symbols k 0) []) (place_of s b) 0

-- the trellis of branch metrics and an array of start metrics
abbrev pub engine : (ℕ → ℕ → Bool → ℕ) → List ℕ → Trellis ℕ
engine branch start = record { numbering = newest_low; branch = branch; start = λ s. get_or start s 0 }

-- each symbol has a row, and no branch metric is above four
pub record Rows (rows : List (List ℕ)) (symbols : List ℕ) : Type 0 where
  pub symbol : (k : ℕ) → k < length symbols → get_or symbols k 0 < length rows
  pub small : (i g : ℕ) → i < length rows → g < 64 → get_or (get_or rows i []) g 0 ≤ 4

abbrev pub Starts : List ℕ → Type 0
Starts start = (s : ℕ) → s < 32 → get_or start s 0 ≤ 1000

module _ (X : Trellis ℕ) where
  -- the metrics after k steps, the predecessor bytes of the step k, and those of the first n steps
  abbrev pub MetricsAt : List ℕ → ℕ → Type 0
  MetricsAt ms k = (t : ℕ) → t < 32 → get_or ms t 0 ≡ state_metric wholes X k t

  abbrev pub BytesAt : List ℕ → ℕ → Type 0
  BytesAt bytes k = (t : ℕ) → t < 32 → get_or bytes t 0 ≡ byte_of (candidate wholes X k t false) (candidate wholes X k t true) (pred_low t false)

  abbrev pub BytesTo : List (List ℕ) → ℕ → Type 0
  BytesTo ps n = (j : ℕ) → j < n → BytesAt (get_or ps j []) j

  -- after n steps; the rows past them are as they were
  pub record Forwarded (ps₀ ps : List (List ℕ)) (n : ℕ) (ms : List ℕ) : Type 0 where
    pub bytes : BytesTo ps n
    pub metrics : MetricsAt ms n
    pub rest : (j : ℕ) → n ≤ j → get_or ps j [] ≡ get_or ps₀ j []
