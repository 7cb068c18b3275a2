-- What the flat functions over DCCH blocks answer.
use Rattle.std.specs.Prelude.{◌≡◌, Bool, cond, ℕ, Result, Ok, Err}
use Rattle.bits.specs.Refusals.{number_of, expected_of, actual_of}
use Rattle.bits.specs.declared.Refusal.{Refusal}
use Rattle.dcch.specs.declared.crc.CrcMode.{CrcMode}
use Rattle.dcch.specs.declared.crc.CrcMode.TheVariants.{Broadcast, Addressed}
use Rattle.flat_dcch.specs.declared.Block.{Block}

abbrev pub mode_of : Bool → CrcMode
mode_of broadcast = cond broadcast Broadcast Addressed

abbrev pub no_block : Refusal → Block
no_block why = record { refusal = number_of why; expected = expected_of why; actual = actual_of why; corrected = 0 }

-- the answer of a decoding: its count of corrected bits, or the refusal
abbrev pub flat_block : Result ℕ Refusal → Block
flat_block (Ok n) = record { refusal = 0; expected = 0; actual = 0; corrected = n }
flat_block (Err why) = no_block why

-- the answer of a call of `dcch`, of which Call says what it means, made flat
pub record FlatDecoded (Call : Result ℕ Refusal → Type 0) (r : Block) : Type 0 where
  pub answer : Result ℕ Refusal
  pub holds : Call answer
  pub flat : r ≡ flat_block answer
