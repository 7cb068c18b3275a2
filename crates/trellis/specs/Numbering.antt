-- How the 32 states of a shift register of five bits are numbered.
use Rattle.std.specs.Prelude.{Bool, true, false, List, ℕ, ◌+◌, ◌*◌, ◌/◌, ◌%◌}
use Rattle.bits.specs.Bits.{bit, byte}
use Rattle.coding.specs.Registers.{memory_high, memory_low}

-- the state after an input; the two before a state, by the bit that left; the newest and the oldest input that a state holds; all five, newest first
pub record Numbering : Type 0 where
  pub next : ℕ → Bool → ℕ
  pub pred : ℕ → Bool → ℕ
  pub newest : ℕ → Bool
  pub oldest : ℕ → Bool
  pub memory : ℕ → List Bool

-- ---- newest input lowest (TIA/EIA-136-410, and the crate `search`): the register is the state with the input below it
abbrev pub register_low : ℕ → Bool → ℕ
register_low s b = s * 2 + byte b

abbrev pub pred_low : ℕ → Bool → ℕ
pred_low t false = t / 2
pred_low t true = t / 2 + 16

abbrev pub newest_low : Numbering
newest_low = record { next = λ s b. register_low s b % 32; pred = pred_low; newest = bit; oldest = λ s. bit (s / 16); memory = memory_low }

-- ---- newest input highest (IS-136, IS-54-B): the register is the state with the input above it
abbrev pub register_high : ℕ → Bool → ℕ
register_high s b = s + 32 * byte b

abbrev pub pred_high : ℕ → Bool → ℕ
pred_high t false = 2 * t % 32
pred_high t true = 2 * t % 32 + 1

abbrev pub newest_high : Numbering
newest_high = record { next = λ s b. register_high s b / 2; pred = pred_high; newest = λ t. bit (t / 16); oldest = bit; memory = memory_high }
