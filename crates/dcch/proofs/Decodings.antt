-- What `decode` asks of its call, and what it and `nearest_word` answer. Assumes nothing.
use mathlib.Core.Path.{◌≡◌, ap, subst, ◌∙◌}
use mathlib.Core.Bool.{Bool, true, false}
use mathlib.Core.List.{List, ◌++◌, reverse}
use Prim.Native.Nat.{ℕ, ◌+◌, ◌/◌, ◌≤◌}
use native.Mathlib.Omega.{arith}
use lib.ListN.{length, take, drop, replicate}
use Rattle.bits.specs.Bits.{bits, all_binary}
use Rattle.std.specs.Prelude.{Result, Ok}
use Rattle.bits.specs.Arguments.{Arguments}
use Rattle.bits.specs.declared.Refusal.{Refusal}
use Rattle.bits.proofs.Binary.{bits-bytes, binary_bytes}
use Rattle.bits.proofs.LentPart.{became, became_length}
use Rattle.bits.proofs.Refusing.{never_both, passed_room}
use Rattle.trellis.specs.Search.{FoundFirst}
use Rattle.trellis.specs.declared.Outcome.{Outcome}
use Rattle.trellis.specs.Words.{Terminated}
use Rattle.viterbi.specs.Hard.{weight}
use Rattle.dcch_interleaver.specs.declared.BlockFormat.{BlockFormat}
use Rattle.dcch.specs.declared.crc.CrcMode.{CrcMode}
use Rattle.dcch_interleaver.specs.Formats.{encoded_bits, information_bits}
use Rattle.dcch_interleaver.specs.Wire.{deinterleaved}
use Rattle.dcch.specs.Blocks.{decode_arguments, FoundWord, Finished, Decoding}
use Rattle.dcch_interleaver.proofs.Interleaved.{bits-deinterleaved}
use Rattle.dcch.proofs.Encodings.{format_sizes}

pub half_bits : (f : BlockFormat) → encoded_bits f / 2 ≡ information_bits f + 21
half_bits f = omega (arith, (format_sizes f).0)

-- ---- `nearest_word`: the first n of 260 zeros become the cells
module _ (f : BlockFormat) (block : List ℕ) (n : ℕ) (en : n ≡ encoded_bits f) where
  within : n ≤ 260
  within = omega (arith, (format_sizes f).2)

  module _ (cells : List ℕ) (kept : length cells ≡ length (take {A = ℕ} n (replicate 260 0))) (read : cells ≡ deinterleaved f 0 block) where
    part : take n (cells ++ drop {A = ℕ} n (replicate 260 0)) ≡ cells
    part = became n (replicate 260 0) within cells kept

    pub found : (word₀ : List ℕ) {word : List ℕ} {r : Outcome} → length word₀ ≡ encoded_bits f / 2
        → FoundFirst (Terminated (length word₀)) (weight (bits (take n (cells ++ drop {A = ℕ} n (replicate 260 0))))) word r → FoundWord f block word r.metric
    found word₀ {word} {r} h g =
        let e : bits (take n (cells ++ drop {A = ℕ} n (replicate 260 0))) ≡ deinterleaved f false (bits block) = ap bits part ∙ ap bits read ∙ bits-deinterleaved f block in
        let g' : FoundFirst (Terminated (encoded_bits f / 2)) (weight (deinterleaved f false (bits block))) word r =
        subst (λ (m : ℕ). FoundFirst (Terminated m) (weight (deinterleaved f false (bits block))) word r) h
        (subst (λ (u : List Bool). FoundFirst (Terminated (length word₀)) (weight u) word r) e g) in
        record { inputs = g'.found.word; written = g'.found.written; first = g'.first; count = g'.found.metric }

-- ---- `decode`: the first n / 2 of 130 zeros become the word
module _ (f : BlockFormat) (block : List ℕ) (dvcc : ℕ) (mode : CrcMode) (information₀ : List ℕ) {l : Arguments} (told : l ≡ decode_arguments f block (length information₀)) (passed : l ≡ Ok tt)
    (n : ℕ) (en : n ≡ encoded_bits f) where
  tests : (length block ≡ encoded_bits f) × (length information₀ ≡ information_bits f) × (all_binary block ≡ true)
  tests = passed_room (encoded_bits f) block (information_bits f) (length information₀) told passed

  half_within : n / 2 ≤ 130
  half_within = omega (arith, (format_sizes f).2)

  module _ (word : List ℕ) (kept : length word ≡ length (take {A = ℕ} (n / 2) (replicate 130 0))) {corrected : ℕ} (g : FoundWord f block word corrected) where
    word_part : take (n / 2) (word ++ drop {A = ℕ} (n / 2) (replicate 130 0)) ≡ word
    word_part = became (n / 2) (replicate 130 0) half_within word kept

    pub asks_finish : (all_binary (take (n / 2) (word ++ drop {A = ℕ} (n / 2) (replicate 130 0))) ≡ true)
        × (length (take (n / 2) (word ++ drop {A = ℕ} (n / 2) (replicate 130 0))) ≡ length information₀ + 21) × (length information₀ ≤ 109)
    asks_finish = (
      ap all_binary word_part ∙ ap all_binary g.written ∙ binary_bytes (reverse g.inputs),
      omega (arith, ap length word_part, became_length (n / 2) (replicate 130 0) half_within word kept, half_bits f, tests.1),
      omega (arith, tests.1, (format_sizes f).1),
    )

    pub settled_end : {information : List ℕ} {r : Result ℕ Refusal}
        → Finished (bits (take (n / 2) (word ++ drop {A = ℕ} (n / 2) (replicate 130 0)))) corrected dvcc mode information₀ information r
        → Decoding f block dvcc mode information₀ information r
    settled_end {information} {r} h =
        let e : bits (take (n / 2) (word ++ drop {A = ℕ} (n / 2) (replicate 130 0))) ≡ reverse g.inputs =
        ap bits word_part ∙ ap bits g.written ∙ bits-bytes (reverse g.inputs) in
        record {
          declined = λ y ey. never_both passed (told ∙ ey);
          settled = λ ef. record {
            word = g.inputs;
            first = g.first;
            finished = subst (λ (m : ℕ). Finished (reverse g.inputs) m dvcc mode information₀ information r) g.count
                (subst (λ (u : List Bool). Finished u corrected dvcc mode information₀ information r) e h);
          };
        }
