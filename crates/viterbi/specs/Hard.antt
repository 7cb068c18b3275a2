-- Hard-decision searches of the code of DCCH, SACCH and VSELP. A word is its inputs, newest first.
use Rattle.std.specs.Prelude.{Bool, List, reverse, ℕ}
use Rattle.bits.specs.Bits.{disagreements}
use Rattle.coding.specs.Codes.{coded, dcch}
use Rattle.coding.specs.Registers.{memory_high}
use Rattle.trellis.specs.Words.{least_up_to}

-- in how many places the coded bits of a word, that follow the inputs of a memory, differ from what was received
unfoldable pub weight_from : List Bool → List Bool → List Bool → ℕ
weight_from memory received w = disagreements (coded dcch memory (reverse w)) received

-- from state 0
abbrev pub weight : List Bool → List Bool → ℕ
weight received w = weight_from (memory_high 0) received w

-- the fewest over the 32 starting memories
unfoldable pub free_weight : List Bool → List Bool → ℕ
free_weight received w = least_up_to 31 (λ (s : ℕ). weight_from (memory_high s) received w)
