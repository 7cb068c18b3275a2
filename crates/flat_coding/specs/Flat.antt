-- What the flat functions answer: a number of document 01 and zeros, or 0 and the result.
use Rattle.std.specs.Prelude.{◌≡◌, Bool, cond, List, ◌++◌, ℕ, ltb, take, replicate, Result, Ok, Err}
use Rattle.bits.specs.Bits.{bit}
use Rattle.bits.specs.Arguments.{Arguments}
use Rattle.bits.specs.Refusals.{number_of}
use Rattle.bits.specs.declared.Refusal.{Refusal}
use Rattle.bits.specs.declared.Refusal.TheVariants.{Symbol, State}
use Rattle.coding.specs.Registers.{Stepped}
use Rattle.flat_coding.specs.declared.Step.{Step}
use Rattle.flat_coding.specs.declared.Checksum.{Checksum}

-- ---- one step
abbrev pub no_step : Refusal → Step
no_step why = record { refusal = number_of why; next = 0; output = replicate 4 0 }

-- a step: its outputs, then zeros, four in all
pub record Taken (code : List (List Bool)) (memory : ℕ → List Bool) (state input : ℕ) (r : Step) : Type 0 where
  pub none : r.refusal ≡ 0
  pub outputs : List ℕ
  pub step : Stepped code memory state (bit input) r.next outputs
  pub held : r.output ≡ take 4 (outputs ++ replicate 4 0)

-- State where the state is above 31, then Symbol where the input is no bit
unfoldable pub step_arguments : ℕ → ℕ → Arguments
step_arguments state input = cond (ltb 31 state) (Err State) (cond (ltb 1 input) (Err Symbol) (Ok tt))

-- the answer of a step
pub record StepAnswer (code : List (List Bool)) (memory : ℕ → List Bool) (state input : ℕ) (r : Step) : Type 0 where
  pub not_stepped : (why : Refusal) → step_arguments state input ≡ Err why → r ≡ no_step why
  pub taken : step_arguments state input ≡ Ok tt → Taken code memory state input r

-- ---- a checksum
abbrev pub flat_checksum : Result ℕ Refusal → Checksum
flat_checksum (Ok x) = record { refusal = 0; value = x }
flat_checksum (Err why) = record { refusal = number_of why; value = 0 }
