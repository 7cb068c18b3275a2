-- Decoding of a block of reliabilities. The Rust decides the arithmetic: soft/specs/Soft.antt. A word is its inputs, newest first; the inputs of a block are oldest first.
use Rattle.std.specs.Prelude.{◌≡◌, Bool, true, false, List, reverse, ℕ, ◌+◌, ◌/◌, length, Float, Result, Ok, Err}
use Rattle.std.specs.Float.{nan}
use Rattle.bits.specs.Bits.{bytes}
use Rattle.bits.specs.Arguments.{Arguments, first_refusal, exact_of}
use Rattle.bits.specs.declared.Refusal.{Refusal}
use Rattle.bits.specs.declared.Refusal.TheVariants.{Crc}
use Rattle.coding.specs.Codes.{coded, dcch}
use Rattle.coding.specs.Registers.{memory_high}
use Rattle.trellis.specs.Search.{First}
use Rattle.trellis.specs.Words.{Terminated}
use Rattle.soft.specs.Reliability.{all_finite, AllWhole, sign_count}
use Rattle.soft.specs.RustOrder.{rust_bits}
use Rattle.soft.specs.Soft.{soft_word, total_cost, NoRounding, SoftFound}
use Rattle.dcch_interleaver.specs.declared.BlockFormat.{BlockFormat}
use Rattle.dcch.specs.declared.crc.CrcMode.{CrcMode}
use Rattle.dcch_interleaver.specs.Formats.{encoded_bits, information_bits}
use Rattle.dcch_interleaver.specs.Wire.{deinterleaved}
use Rattle.dcch.specs.Blocks.{Finished}

-- a block and room for the information: each length
abbrev pub soft_arguments : BlockFormat → ℕ → ℕ → Arguments
soft_arguments f block room = first_refusal (exact_of (encoded_bits f) block) (exact_of (information_bits f) room)

-- the corrected bits of a word's inputs: its coded bits that differ from the signs; a zero reads as a zero
unfoldable pub signs_of : List Bool → List Float → ℕ
signs_of inputs values = sign_count (coded dcch (memory_high 0) inputs) values

-- What the search of finite cells gives: the word found, and the end of the decoding. count is the number of corrected bits, by a word's inputs and the cells.
pub record CellsSearched (count : List Bool → List Float → ℕ) (cells : List Float) (dvcc : ℕ) (mode : CrcMode) (information₀ information : List ℕ) (r : Result ℕ Refusal) : Type 0 where
  pub bits : List ℕ
  pub found : SoftFound cells (length information₀ + 21) bits
  pub finished : Finished (reverse found.word) (count (reverse found.word) cells) dvcc mode information₀ information r

-- The end of a soft decoding of a block of finite reliabilities, with a count of corrected bits. Its word ends in five zeros and is what the Rust reads
-- back, which is the survivor's over doubles. Where every reliability of the block is a whole number of size at most 2 ^ 40 no sum rounds, and it is the
-- first of the words of least total cost among all that end in five zeros.
pub record SoftEnd (count : List Bool → List Float → ℕ) (f : BlockFormat) (block : List Float) (dvcc : ℕ) (mode : CrcMode) (information₀ information : List ℕ) (r : Result ℕ Refusal) : Type 0 where
  pub word : List Bool
  pub terminated : Terminated (encoded_bits f / 2) word
  pub rust : bytes (reverse word) ≡ rust_bits (deinterleaved f nan block) (encoded_bits f / 2)
  pub survivor : word ≡ soft_word (deinterleaved f nan block) (encoded_bits f / 2)
  pub exact : AllWhole block → NoRounding (deinterleaved f nan block) (encoded_bits f / 2)
  pub nearest : AllWhole block → First (Terminated (encoded_bits f / 2)) (total_cost (deinterleaved f nan block)) word
  pub finished : Finished (reverse word) (count (reverse word) (deinterleaved f nan block)) dvcc mode information₀ information r

-- lengths, then Crc where a reliability is a NaN or an infinity, then the search
pub record SoftDecoding (f : BlockFormat) (block : List Float) (dvcc : ℕ) (mode : CrcMode) (information₀ information : List ℕ) (r : Result ℕ Refusal) : Type 0 where
  pub declined : (why : Refusal) → soft_arguments f (length block) (length information₀) ≡ Err why → (r ≡ Err why) × (information ≡ information₀)
  pub unreadable : soft_arguments f (length block) (length information₀) ≡ Ok tt → all_finite block ≡ false → (r ≡ Err Crc) × (information ≡ information₀)
  pub settled : soft_arguments f (length block) (length information₀) ≡ Ok tt → all_finite block ≡ true → SoftEnd signs_of f block dvcc mode information₀ information r
