-- One step of the engine: 32 states with the newest input lowest, u16 metrics, a row of 64 branch metrics.
use Rattle.std.specs.Prelude.{◌≡◌, Bool, true, false, List, ℕ, ◌+◌, ◌<◌, get_or}
use Rattle.search.specs.Select.{lesser_of, byte_of}
use Rattle.bits.specs.Bits.{bit}
use Rattle.trellis.specs.Numbering.{pred_low}
use Rattle.search.specs.Row.{place_of}
use Rattle.search.specs.declared.butterfly.Column.{Column}

-- no sum of a metric and a branch metric leaves 16 bits
abbrev pub Fit : List ℕ → List ℕ → Type 0
Fit ms row = (i j : ℕ) → i < 32 → j < 64 → get_or ms i 0 + get_or row j 0 < 65536

-- the metric into t from its lower (false) or its upper (true) predecessor: the input is the lowest bit of t
abbrev pub candidate_of : List ℕ → List ℕ → ℕ → Bool → ℕ
candidate_of ms row t b = get_or ms (pred_low t b) 0 + get_or row (place_of (pred_low t b) (bit t)) 0

abbrev pub metric_into : List ℕ → List ℕ → ℕ → ℕ
metric_into ms row t = lesser_of (candidate_of ms row t false) (candidate_of ms row t true)

abbrev pub byte_into : List ℕ → List ℕ → ℕ → ℕ
byte_into ms row t = byte_of (candidate_of ms row t false) (candidate_of ms row t true) (pred_low t false)

pub record Advanced (ms : List ℕ) (row : List ℕ) (r : Column (List ℕ)) : Type 0 where
  pub metric : (t : ℕ) → t < 32 → get_or r.metrics t 0 ≡ metric_into ms row t
  pub byte : (t : ℕ) → t < 32 → get_or r.predecessors t 0 ≡ byte_into ms row t
