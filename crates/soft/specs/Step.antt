-- One step of the search over arrays: the states 2 n and 2 n + 1 lead to n and n + 16, a butterfly.
use Rattle.std.specs.Prelude.{◌≡◌, Bool, true, false, cond, List, [], ◌∷◌, ℕ, ◌+◌, ◌*◌, ◌/◌, ◌%◌, ◌<◌, get_or, Float}
use Rattle.std.specs.Float.{nan, inf, binary64}
use Rattle.std.specs.Float.Ieee.{add, lt, eq}
use Rattle.bits.specs.Bits.{bit, byte, ◌⊕◌}
use Rattle.coding.specs.Codes.{outputs, dcch}
use Rattle.coding.specs.Registers.{memory_high}
use Rattle.trellis.specs.Numbering.{pred_high}
use Rattle.soft.specs.Branch.{pair_cost}
use Rattle.soft.specs.RustOrder.{rust_from}
use Rattle.soft.specs.declared.step.Branches.{Branches}
use Rattle.search.specs.declared.butterfly.Column.{Column}

-- ---- branch metrics
-- an output pair as a number, its first bit worth two
abbrev pub pair_number : Bool → Bool → ℕ
pair_number p q = byte p * 2 + byte q

-- the branch metrics of the four output pairs
abbrev pub PairCosts : Float → Float → List Float → Type 0
PairCosts x y costs = (p q : Bool) → get_or costs (pair_number p q) nan ≡ pair_cost x y (p ∷ q ∷ [])

-- the output pair of the step from the state 2 n with the input b
unfoldable pub output_of : ℕ → Bool → ℕ → Bool
output_of n b i = get_or (outputs dcch (b ∷ memory_high (n * 2))) i false

abbrev pub output_number : ℕ → Bool → ℕ
output_number n b = pair_number (output_of n b 0) (output_of n b 1)

abbrev pub OutputsTo : List ℕ → ℕ → Type 0
OutputsTo l k = (n : ℕ) → n < k → get_or l n 0 ≡ output_number n false

-- of each butterfly, the branch metrics from its lower state 2 n with a zero and with a one
pub record Branched (x y : Float) (r : Branches) : Type 0 where
  pub zeros : (n : ℕ) → n < 16 → get_or r.zeros n nan ≡ pair_cost x y (output_of n false 0 ∷ output_of n false 1 ∷ [])
  pub ones : (n : ℕ) → n < 16 → get_or r.ones n nan ≡ pair_cost x y (output_of n true 0 ∷ output_of n true 1 ∷ [])

-- ---- add, compare, select
-- the lesser of the candidates through a state's two predecessors, the lower's where neither is less
unfoldable pub lesser_of : Float → Float → Float
lesser_of lower upper = cond (lt upper lower) upper lower

-- the predecessor chosen
unfoldable pub chosen_of : Float → Float → ℕ → ℕ
chosen_of lower upper from = cond (lt upper lower) (from + 1) from

-- The branch metric into t from its predecessor b. A butterfly has two, for flipping the newest or the oldest input complements both outputs.
abbrev pub branch_into : List Float → List Float → ℕ → Bool → Float
branch_into zeros ones t b = cond (bit (t / 16) ⊕ b) (get_or ones (t % 16) nan) (get_or zeros (t % 16) nan)

abbrev pub candidate_of : List Float → List Float → List Float → ℕ → Bool → Float
candidate_of ms zeros ones t b = add binary64 (get_or ms (pred_high t b) nan) (branch_into zeros ones t b)

abbrev pub metric_into : List Float → List Float → List Float → ℕ → Float
metric_into ms zeros ones t = lesser_of (candidate_of ms zeros ones t false) (candidate_of ms zeros ones t true)

abbrev pub chosen_into : List Float → List Float → List Float → ℕ → ℕ
chosen_into ms zeros ones t = chosen_of (candidate_of ms zeros ones t false) (candidate_of ms zeros ones t true) (pred_high t false)

-- the lesser candidates, and the predecessors that they come through
pub record Selected (ms zeros ones : List Float) (r : Column (List Float)) : Type 0 where
  pub metric : (t : ℕ) → t < 32 → get_or r.metrics t nan ≡ metric_into ms zeros ones t
  pub chosen : (t : ℕ) → t < 32 → get_or r.predecessors t 0 ≡ chosen_into ms zeros ones t

-- the byte stored of a state by its metric after the step: its predecessor, and 0 where no candidate was below infinity
unfoldable pub stored_of : Float → ℕ → ℕ
stored_of metric chosen = cond (eq metric (inf false)) 0 chosen

pub record Advanced (ms zeros ones : List Float) (r : Column (List Float)) : Type 0 where
  pub metric : (t : ℕ) → t < 32 → get_or r.metrics t nan ≡ metric_into ms zeros ones t
  pub stored : (t : ℕ) → t < 32 → get_or r.predecessors t 0 ≡ stored_of (metric_into ms zeros ones t) (chosen_into ms zeros ones t)

-- ---- all steps
-- the byte of s at the step k, by a list of rows
abbrev pub rows_at : List (List ℕ) → ℕ → ℕ → ℕ
rows_at rows k s = get_or (get_or rows k []) s 0

-- the first n rows hold what the Rust's table does
abbrev pub StoredTo : List Float → List (List ℕ) → ℕ → Type 0
StoredTo values rows n = (k : ℕ) → k < n → (s : ℕ) → s < 32 → rows_at rows k s ≡ rust_from values k s
