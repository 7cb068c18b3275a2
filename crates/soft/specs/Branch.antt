-- The trellis of a list of reliabilities, two to a step, over doubles.
use Rattle.std.specs.Prelude.{Bool, false, List, ◌∷◌, ℕ, zero, suc, ◌+◌, ◌*◌, get_or, Float}
use Rattle.std.specs.Float.{nan, inf, binary64}
use Rattle.std.specs.Float.Ieee.{add}
use Rattle.coding.specs.Codes.{outputs, dcch}
use Rattle.coding.specs.Registers.{memory_high}
use Rattle.trellis.specs.Numbering.{newest_high}
use Rattle.trellis.specs.Trellis.{Trellis}
use Rattle.soft.specs.Reliability.{zero_f, bit_cost}

-- the branch metric of an output pair: its costs are summed before they meet a path metric
unfoldable pub pair_cost : Float → Float → List Bool → Float
pair_cost x y output = add binary64 (bit_cost (get_or output 0 false) x) (bit_cost (get_or output 1 false) y)

-- the output bit i of a step from the state s with the input b
abbrev pub output_bit : ℕ → Bool → ℕ → Bool
output_bit s b i = get_or (outputs dcch (b ∷ memory_high s)) i false

-- the branch metric of the step k from the state s with the input b
abbrev pub soft_branch : List Float → ℕ → ℕ → Bool → Float
soft_branch values k s b = pair_cost (get_or values (k * 2) nan) (get_or values (k * 2 + 1) nan) (outputs dcch (b ∷ memory_high s))

-- state 0 starts with one metric, any other with another
abbrev pub start_in0 : {C : Type 0} → C → C → ℕ → C
start_in0 zeroth other zero = zeroth
start_in0 zeroth other (suc s) = other

abbrev pub soft_start : ℕ → Float
soft_start = start_in0 zero_f (inf false)

abbrev pub soft_trellis : List Float → Trellis Float
soft_trellis values = record { numbering = newest_high; branch = soft_branch values; start = soft_start }
