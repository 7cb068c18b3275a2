-- Encoding and decoding of a block (IS-136.1-A 4.4.3 and 5.2.6). A word is its inputs, newest first; the inputs of a block are oldest first.
use Rattle.std.specs.Prelude.{◌≡◌, Bool, true, false, List, ◌++◌, reverse, ℕ, ◌/◌, length, take, replicate, Result, Ok, Err}
use Rattle.bits.specs.Bits.{bits, bytes}
use Rattle.bits.specs.Numbers.{unpacked}
use Rattle.bits.specs.Arguments.{Arguments, bits_and_room}
use Rattle.bits.specs.declared.Refusal.{Refusal}
use Rattle.bits.specs.declared.Refusal.TheVariants.{Crc}
use Rattle.coding.specs.Codes.{coded, dcch}
use Rattle.coding.specs.Registers.{memory_high}
use Rattle.trellis.specs.Search.{First}
use Rattle.trellis.specs.Words.{Terminated}
use Rattle.viterbi.specs.Hard.{weight}
use Rattle.dcch_interleaver.specs.declared.BlockFormat.{BlockFormat}
use Rattle.bits.specs.Calls.{WriteCall}
use Rattle.dcch.specs.declared.crc.CrcMode.{CrcMode}
use Rattle.dcch.specs.Crc.{block_valid, sent_checksum}
use Rattle.dcch_interleaver.specs.Formats.{encoded_bits, information_bits}
use Rattle.dcch_interleaver.specs.Wire.{interleaved, deinterleaved}

-- ---- encode
-- the inputs of a block: the information, its checksum with the highest bit first, and the tail of five zeros
unfoldable pub inputs_of : List Bool → ℕ → List Bool
inputs_of information checksum = information ++ (unpacked 16 checksum ++ replicate 5 false)

-- their coded bits, from state 0
unfoldable pub cells_of : List Bool → ℕ → CrcMode → List Bool
cells_of information dvcc mode = coded dcch (memory_high 0) (inputs_of information (sent_checksum information dvcc mode))

-- the block that is sent
unfoldable pub block_of : BlockFormat → List Bool → ℕ → CrcMode → List Bool
block_of f information dvcc mode = interleaved f false (cells_of information dvcc mode)

-- a slice of information and room for the block: each length, then the symbols
abbrev pub encode_arguments : BlockFormat → List ℕ → ℕ → Arguments
encode_arguments f information room = bits_and_room (information_bits f) information (encoded_bits f) room

abbrev pub Encoding : BlockFormat → List ℕ → ℕ → CrcMode → List ℕ → List ℕ → Arguments → Type 0
Encoding f information dvcc mode block₀ block r =
    WriteCall (encode_arguments f information (length block₀)) (bytes (block_of f (bits information) dvcc mode)) block₀ block r

-- ---- decode
-- a block and room for the information: each length, then the symbols
abbrev pub decode_arguments : BlockFormat → List ℕ → ℕ → Arguments
decode_arguments f block room = bits_and_room (encoded_bits f) block (information_bits f) room

-- the end of a decoding: the information and the count where the checksum is right, else Crc and nothing written
pub record Finished (inputs : List Bool) (corrected dvcc : ℕ) (mode : CrcMode) (information₀ information : List ℕ) (r : Result ℕ Refusal) : Type 0 where
  pub taken : block_valid (length information₀) inputs dvcc mode ≡ true → (r ≡ Ok corrected) × (information ≡ bytes (take (length information₀) inputs))
  pub failed : block_valid (length information₀) inputs dvcc mode ≡ false → (r ≡ Err Crc) × (information ≡ information₀)

-- what the search of a block finds: the first of the nearest words, as bytes, and its number of disagreements
pub record FoundWord (f : BlockFormat) (block word : List ℕ) (corrected : ℕ) : Type 0 where
  pub inputs : List Bool
  pub written : word ≡ bytes (reverse inputs)
  pub first : First (Terminated (encoded_bits f / 2)) (weight (deinterleaved f false (bits block))) inputs
  pub count : corrected ≡ weight (deinterleaved f false (bits block)) inputs

-- the word that a decoding works with: the first of the words nearest to the received cells, among all inputs that end in five zeros
pub record Settled (f : BlockFormat) (block : List ℕ) (dvcc : ℕ) (mode : CrcMode) (information₀ information : List ℕ) (r : Result ℕ Refusal) : Type 0 where
  pub word : List Bool
  pub first : First (Terminated (encoded_bits f / 2)) (weight (deinterleaved f false (bits block))) word
  pub finished : Finished (reverse word) (weight (deinterleaved f false (bits block)) word) dvcc mode information₀ information r

pub record Decoding (f : BlockFormat) (block : List ℕ) (dvcc : ℕ) (mode : CrcMode) (information₀ information : List ℕ) (r : Result ℕ Refusal) : Type 0 where
  pub declined : (why : Refusal) → decode_arguments f block (length information₀) ≡ Err why → (r ≡ Err why) × (information ≡ information₀)
  pub settled : decode_arguments f block (length information₀) ≡ Ok tt → Settled f block dvcc mode information₀ information r
