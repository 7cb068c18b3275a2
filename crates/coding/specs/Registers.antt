-- The shift register of a code: a state is the number of its last five inputs.
use Rattle.std.specs.Prelude.{◌≡◌, Bool, List, [], ◌∷◌, ℕ, ◌+◌, ◌*◌, ◌/◌, ◌%◌, ◌<◌, take}
use Rattle.bits.specs.Bits.{bit, bytes}
use Rattle.coding.specs.Codes.{outputs}

-- The five inputs that a state holds, newest first. IS-136 and IS-54-B: the newest input is the highest bit.
abbrev pub memory_high : ℕ → List Bool
memory_high s = bit (s / 16) ∷ bit (s / 8) ∷ bit (s / 4) ∷ bit (s / 2) ∷ bit s ∷ []

-- TIA/EIA-136-410: the newest input is the lowest bit.
abbrev pub memory_low : ℕ → List Bool
memory_low s = bit s ∷ bit (s / 2) ∷ bit (s / 4) ∷ bit (s / 8) ∷ bit (s / 16) ∷ []

-- The five bits of a state in the other order: the one numbering of the states from the other.
abbrev pub mirror : ℕ → ℕ
mirror s = s % 2 * 16 + s / 2 % 2 * 8 + s / 4 % 2 * 4 + s / 8 % 2 * 2 + s / 16 % 2

-- One step: the outputs of the input and the five before it; the next state holds the newest five.
pub record Stepped (code : List (List Bool)) (memory : ℕ → List Bool) (state : ℕ) (input : Bool) (next : ℕ) (output : List ℕ) : Type 0 where
  pub sent : output ≡ bytes (outputs code (input ∷ memory state))
  pub below : next < 32
  pub holds : memory next ≡ take 5 (input ∷ memory state)
