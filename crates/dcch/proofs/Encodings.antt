-- What `encode` and `encode_cells` answer, with their scratch arrays lent in part. Assumes nothing.
use mathlib.Core.Path.{◌≡◌, refl, sym, ap, ◌∙◌}
use mathlib.Core.Bool.{Bool, false}
use mathlib.Core.List.{List, ◌++◌}
use Prim.Native.Nat.{ℕ, ◌+◌, ◌*◌, ◌≤◌}
use native.Mathlib.Omega.{arith}
use lib.ListN.{length, take, drop, replicate, length-append}
use Rattle.std.specs.Prelude.{Ok}
use Rattle.bits.specs.Bits.{bits, bytes}
use Rattle.bits.specs.Numbers.{unpacked}
use Rattle.bits.proofs.Packed.{unpacked-length}
use Rattle.bits.specs.Arguments.{Arguments}
use Rattle.bits.proofs.LentPart.{became}
use Rattle.coding.specs.Codes.{coded, dcch}
use Rattle.coding.specs.Registers.{memory_high}
use Rattle.coding.specs.Runs.{Encoded}
use Rattle.dcch_interleaver.specs.declared.BlockFormat.{BlockFormat}
use Rattle.dcch_interleaver.specs.declared.BlockFormat.TheVariants.{Forward, ReverseNormal, ReverseAbbreviated}
use Rattle.bits.proofs.Writing as writing
use Rattle.dcch_interleaver.specs.Formats.{encoded_bits, information_bits}
use Rattle.dcch_interleaver.specs.Wire.{interleaved}
use Rattle.dcch.specs.declared.crc.CrcMode.{CrcMode}
use Rattle.dcch.specs.Crc.{sent_checksum}
use Rattle.dcch.specs.Blocks.{inputs_of, cells_of, block_of, encode_arguments, Encoding}
use Rattle.dcch_interleaver.proofs.Interleaved.{bytes-interleaved}

-- two coded bits for each bit of the information, the checksum and the tail
pub format_sizes : (f : BlockFormat) → (encoded_bits f ≡ (information_bits f + 21) * 2) × (information_bits f ≤ 109) × (encoded_bits f ≤ 260)
format_sizes Forward = (refl, omega arith, omega arith)
format_sizes ReverseNormal = (refl, omega arith, omega arith)
format_sizes ReverseAbbreviated = (refl, omega arith, omega arith)

pub inputs-length : (information : List Bool) (checksum : ℕ) → length (inputs_of information checksum) ≡ length information + 21
unfolding inputs_of
inputs-length information checksum =
    length-append information (unpacked 16 checksum ++ replicate 5 false)
    ∙ ap (λ (n : ℕ). length information + n) (length-append (unpacked 16 checksum) (replicate 5 false) ∙ ap (λ (n : ℕ). n + 5) (unpacked-length 16 checksum))

-- ---- `encode_cells`: the inputs are coded
module _ (information : List ℕ) (checksum : ℕ) (inputs : List ℕ) (filled : bits inputs ≡ inputs_of (bits information) checksum) where
  pub cells_coded : (dvcc : ℕ) (mode : CrcMode) {cells : List ℕ} {next : ℕ} → checksum ≡ sent_checksum (bits information) dvcc mode
      → Encoded 0 inputs cells next → cells ≡ bytes (cells_of (bits information) dvcc mode)
  unfolding cells_of
  cells_coded dvcc mode told e =
      e.bits
      ∙ ap (λ (u : List Bool). bytes (coded dcch (memory_high 0) u))
      (filled ∙ ap (inputs_of (bits information)) told)

-- ---- `encode`
module _ (f : BlockFormat) (information : List ℕ) (dvcc : ℕ) (mode : CrcMode) (block₀ : List ℕ) {l : Arguments} (told : l ≡ encode_arguments f information (length block₀)) (passed : l ≡ Ok tt)
    (n : ℕ) (en : n ≡ encoded_bits f) (cells : List ℕ) (kept : length cells ≡ length (take {A = ℕ} n (replicate 260 0))) where
  pub done_end : {block : List ℕ} → cells ≡ bytes (cells_of (bits information) dvcc mode)
      → block ≡ interleaved f 0 (take n (cells ++ drop {A = ℕ} n (replicate 260 0))) → Encoding f information dvcc mode block₀ block (Ok tt)
  unfolding block_of
  done_end ec eb =
      let part : take n (cells ++ drop {A = ℕ} n (replicate 260 0)) ≡ cells = became n (replicate 260 0) (omega (arith, (format_sizes f).2)) cells kept in
      writing.done_end told passed (eb ∙ ap (interleaved f 0) (part ∙ ec) ∙ sym (bytes-interleaved f (cells_of (bits information) dvcc mode)))
