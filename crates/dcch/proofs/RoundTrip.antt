-- `decode` of `encode` is the information, corrected 0: the word of the block weighs nothing, and no other word has its coded bits.
-- Assumes nothing.
use mathlib.Core.Path.{◌≡◌, refl, sym, ap, subst, ◌∙◌}
use mathlib.Core.Bool.{Bool, true, false}
use mathlib.Core.List.{List, ◌++◌, reverse, reverse-append, reverse-reverse}
use Prim.Native.Nat.{ℕ, ◌+◌, ◌/◌}
use native.Mathlib.Omega.{arith}
use lib.ListN.{length, take, replicate, length-reverse, length-map}
use lib.Seq.{take_at}
use Rattle.bits.specs.Bits.{byte, bits, bytes, disagreements}
use Rattle.bits.specs.Numbers.{unpacked}
use Rattle.std.specs.Prelude.{Result, Ok}
use Rattle.bits.proofs.Binary.{bits-bytes, binary_bytes}
use Rattle.bits.proofs.Tally.{disagreements_self, disagreements_none}
use Rattle.coding.specs.Codes.{coded, dcch}
use Rattle.coding.specs.Registers.{memory_high}
use Rattle.coding.proofs.Coded.{coded-length}
use Rattle.coding.proofs.Unique.{same_start}
use Rattle.checksums.proofs.Tested.{carries_own}
use Rattle.trellis.specs.Search.{First}
use Rattle.trellis.specs.Words.{Terminated}
use Rattle.viterbi.specs.Hard.{weight, weight_from}
use Rattle.bits.proofs.Refusing.{room_passed}
use Rattle.dcch_interleaver.specs.declared.BlockFormat.{BlockFormat}
use Rattle.dcch.specs.declared.crc.CrcMode.{CrcMode}
use Rattle.dcch.proofs.Checksums.{sent_below}
use Rattle.dcch.specs.Crc.{block_valid, sent_checksum}
use Rattle.bits.specs.declared.Refusal.{Refusal}
use Rattle.dcch_interleaver.specs.Formats.{encoded_bits, information_bits}
use Rattle.dcch_interleaver.specs.Wire.{interleaved, deinterleaved}
use Rattle.dcch.specs.Blocks.{inputs_of, cells_of, block_of, decode_arguments, Settled, Decoding}
use Rattle.dcch_interleaver.proofs.Interleaved.{interleaved-length, deinterleaved-interleaved}
use Rattle.dcch.proofs.Encodings.{format_sizes, inputs-length}

module _ (f : BlockFormat) (information : List Bool) (size : length information ≡ information_bits f) (dvcc : ℕ) (mode : CrcMode) where
  inputs : List Bool
  inputs = inputs_of information (sent_checksum information dvcc mode)

  cells : List Bool
  cells = cells_of information dvcc mode

  inputs_length : length inputs ≡ length information + 21
  unfolding inputs
  inputs_length = inputs-length information (sent_checksum information dvcc mode)

  pub cells_length : length (cells_of information dvcc mode) ≡ encoded_bits f
  unfolding cells_of inputs
  cells_length = coded-length dcch (memory_high 0) inputs ∙ omega (arith, inputs_length, size, (format_sizes f).0)

  -- the block's own word
  own : Terminated (encoded_bits f / 2) (reverse inputs)
  unfolding inputs inputs_of
  own =
      record {
        steps = length-reverse inputs ∙ omega (arith, inputs_length, size, (format_sizes f).0);
        tail =
            ap (take 5) (reverse-append information (unpacked 16 (sent_checksum information dvcc mode) ++ replicate 5 false)
            ∙ ap (λ (l : List Bool). l ++ reverse information) (reverse-append (unpacked 16 (sent_checksum information dvcc mode)) (replicate 5 false)));
      }

  own_weight : weight cells (reverse inputs) ≡ 0
  unfolding weight_from cells cells_of inputs
  own_weight = ap (λ (u : List Bool). disagreements (coded dcch (memory_high 0) u) cells) (reverse-reverse inputs) ∙ disagreements_self cells

  -- a word that weighs nothing is the block's own
  only_own : (w : List Bool) → Terminated (encoded_bits f / 2) w → weight cells w ≡ 0 → reverse w ≡ inputs
  unfolding weight_from cells cells_of inputs
  only_own w t e =
      same_start (memory_high 0) (reverse w) inputs
      (disagreements_none (coded dcch (memory_high 0) (reverse w)) cells
      (coded-length dcch (memory_high 0) (reverse w) ∙ omega (arith, length-reverse w, t.steps, cells_length, (format_sizes f).0)) e)

  received : deinterleaved f false (bits (bytes (block_of f information dvcc mode))) ≡ cells
  unfolding block_of cells
  received = ap (deinterleaved f false) (bits-bytes (interleaved f false cells)) ∙ deinterleaved-interleaved f false cells cells_length

  front : (n : ℕ) → n ≡ length information → take n inputs ≡ information
  unfolding inputs inputs_of
  front n e = ap (λ (k : ℕ). take k inputs) e ∙ take_at information (unpacked 16 (sent_checksum information dvcc mode) ++ replicate 5 false) (length information) refl

  -- the checksum in the inputs is right
  valid_own : (n : ℕ) → n ≡ length information → block_valid n inputs dvcc mode ≡ true
  unfolding inputs inputs_of
  valid_own n e = carries_own (λ (u : List Bool). sent_checksum u dvcc mode) n information (replicate 5 false) (sent_below information dvcc mode) e

  passed : (n : ℕ) → n ≡ information_bits f → decode_arguments f (bytes (block_of f information dvcc mode)) n ≡ Ok tt
  unfolding block_of
  passed n e =
      let block : List ℕ = bytes (interleaved f false (cells_of information dvcc mode)) in
      let l : length block ≡ encoded_bits f = length-map (interleaved f false (cells_of information dvcc mode)) byte ∙ interleaved-length f false (cells_of information dvcc mode) in
      room_passed (encoded_bits f) block (information_bits f) n l e (binary_bytes (interleaved f false (cells_of information dvcc mode)))

  pub dcch_round_trip : (information₀ information' : List ℕ) (r : Result ℕ Refusal) → length information₀ ≡ information_bits f
      → Decoding f (bytes (block_of f information dvcc mode)) dvcc mode information₀ information' r
      → (r ≡ Ok 0) × (information' ≡ bytes information)
  dcch_round_trip information₀ information' r l d =
      let s : Settled f (bytes (block_of f information dvcc mode)) dvcc mode information₀ information' r = d.settled (passed (length information₀) l) in
      let w : List Bool = s.word in
      let first : First (Terminated (encoded_bits f / 2)) (weight cells) w =
      subst (λ (u : List Bool). First (Terminated (encoded_bits f / 2)) (weight u) w) received s.first in
      let zero : weight cells w ≡ 0 = omega (arith, first.nearest.least (reverse inputs) own, own_weight) in
      let same : reverse w ≡ inputs = only_own w first.nearest.word zero in
      let taken = s.finished.taken (ap (λ (u : List Bool). block_valid (length information₀) u dvcc mode) same ∙ valid_own (length information₀) (l ∙ sym size)) in (
        taken.0 ∙ ap Ok (ap (λ (u : List Bool). weight u w) received ∙ zero),
        taken.1 ∙ ap bytes (ap (take (length information₀)) same ∙ front (length information₀) (l ∙ sym size)),
      )
