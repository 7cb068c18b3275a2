-- The punctured code of ACELP CC1 (TIA/EIA-136-410 4.3): 108 inputs from state 0; of each 27 steps the last sends nothing, so 208 bits are sent.
-- A word is its inputs, newest first.
use Rattle.std.specs.Prelude.{Bool, List, ◌++◌, reverse, ℕ, take, drop}
use Rattle.bits.specs.Bits.{disagreements}
use Rattle.coding.specs.Codes.{coded, acelp}
use Rattle.coding.specs.Registers.{memory_low}

-- what is sent of the coded bits of 108 steps: of each 27 pairs, the first 26
unfoldable pub sent_of : List Bool → List Bool
sent_of l = take 52 l ++ (take 52 (drop 54 l) ++ (take 52 (drop 108 l) ++ take 52 (drop 162 l)))

-- in how many places what is sent of a word differs from what was received
unfoldable pub weight : List Bool → List Bool → ℕ
weight received w = disagreements (sent_of (coded acelp (memory_low 0) (reverse w))) received
