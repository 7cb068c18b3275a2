-- What eleven rows decode to. Assumes nothing.
use mathlib.Core.Path.{◌≡◌, ap, ◌∙◌}
use mathlib.Core.Bool.{Bool}
use mathlib.Core.List.{List}
use Prim.Native.Nat.{ℕ}
use native.Mathlib.Omega.{arith}
use lib.ListN.{length-map}
use Rattle.bits.specs.Bits.{byte, bytes}
use Rattle.bits.specs.Arguments.{Arguments}
use Rattle.bits.specs.declared.Refusal.{Refusal}
use Rattle.std.specs.Prelude.{Result}
use Rattle.bits.proofs.Binary.{bits-bytes, binary_bytes}
use Rattle.bits.proofs.Refusing.{bits_passed}
use Rattle.sacch_decoder.specs.Decoding.{decode_of, decoding, decode_arguments}
use Rattle.sacch_decoder.specs.declared.SacchWord.{SacchWord}
use Rattle.sacch_receiver.specs.Stored.{decode_rows, row_bits, window_of}
use Rattle.sacch_receiver.proofs.Unrolled.{row_bits-length, window_length}

pub window_decoded : (rows : List ℕ) (next dvcc : ℕ) {coded : List ℕ} {answer : Result SacchWord Refusal}
    → coded ≡ bytes (row_bits (window_of rows next)) → answer ≡ decoding (decode_arguments coded) coded dvcc → answer ≡ decode_rows (window_of rows next) dvcc
unfolding decode_rows
window_decoded rows next dvcc {coded} filled decoded =
    let w : List Bool = row_bits (window_of rows next) in
    decoded ∙ ap (λ (l : List ℕ). decoding (decode_arguments l) l dvcc) filled
    ∙ ap (λ (l : Arguments). decoding l (bytes w) dvcc) (bits_passed 132 (bytes w) (length-map w byte ∙ row_bits-length (window_of rows next) ∙ omega (arith, window_length rows next)) (binary_bytes w))
    ∙ ap (λ (v : List Bool). decode_of v dvcc) (bits-bytes w)
