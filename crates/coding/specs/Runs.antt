-- A run of inputs through the shift register of a code.
use Rattle.std.specs.Prelude.{◌≡◌, Bool, List, ◌++◌, reverse, ℕ, ◌<◌, take}
use Rattle.bits.specs.Bits as bit
use Rattle.coding.specs.Codes.{coded, dcch}
use Rattle.coding.specs.Registers.{memory_high}

-- The coded bits of the inputs, oldest first, from a state; the state after them holds the newest five.
pub record Ran (code : List (List Bool)) (memory : ℕ → List Bool) (state : ℕ) (input : List Bool) (next : ℕ) (output : List ℕ) : Type 0 where
  pub bits : output ≡ bit.bytes (coded code (memory state) input)
  pub below : next < 32
  pub holds : memory next ≡ take 5 (reverse input ++ memory state)

-- a run of DCCH's code, its inputs and coded bits as bytes
abbrev pub Encoded : ℕ → List ℕ → List ℕ → ℕ → Type 0
Encoded state input output next = Ran dcch memory_high state (bit.bits input) next output
