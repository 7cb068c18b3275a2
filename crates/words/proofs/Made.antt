-- A word that was made: its length, its checksum and its message, and its header as bytes. Assumes nothing.
use mathlib.Core.Path.{◌≡◌, refl, sym, ap, ◌∙◌}
use mathlib.Core.Bool.{Bool, true, false}
use mathlib.Core.List.{List, [], ◌∷◌, ◌++◌, append_assoc, append-nil}
use Prim.Native.Nat.{ℕ, ◌+◌, ◌^◌, ◌<◌}
use native.Mathlib.Omega.{arith}
use lib.ListN.{length, take, drop, length-append}
use lib.Seq.{take_at, drop_at}
use mir.Val.{bool_byte}
use Rattle.bits.specs.Bits.{bit, bits, bytes, all_binary}
use Rattle.bits.specs.Numbers.{packed, unpacked}
use Rattle.bits.proofs.Binary.{bits-bytes, binary_cons}
use Rattle.bits.proofs.Packed.{packed-unpacked_below, unpacked-length}
use Rattle.checksums.specs.Checksums.{checksum_of}
use Rattle.checksums.proofs.Answers.{checksum_below}
use Rattle.checksums.proofs.Tested.{carries_own}
use Rattle.words.specs.Words.{information_of, made_of, message_in, word_valid}

-- ---- a flag as the first byte of a header
pub flag_bit : (b : Bool) → bit (bool_byte b) ≡ b
flag_bit false = refl
flag_bit true = refl

pub flag_binary : (b : Bool) (l : List ℕ) → all_binary l ≡ true → all_binary (bool_byte b ∷ l) ≡ true
flag_binary false l e = binary_cons 0 l (omega arith) ∙ e
flag_binary true l e = binary_cons 1 l (omega arith) ∙ e

module _ (header : List Bool) (message dvcc : ℕ) where
  abbrev information : List Bool
  information = information_of header message

  abbrev checked : List Bool
  checked = unpacked 16 (checksum_of information dvcc)

  information_length : length information ≡ length header + 48
  information_length = length-append header (unpacked 48 message) ∙ ap (λ (n : ℕ). length header + n) (unpacked-length 48 message)

  pub made_length : length (made_of header message dvcc) ≡ length header + 64
  unfolding made_of
  made_length = omega (arith, length-append information checked, information_length, unpacked-length 16 (checksum_of information dvcc))

  -- its checksum is right
  pub made_valid : (h : ℕ) → length header ≡ h → word_valid h (made_of header message dvcc) dvcc ≡ true
  unfolding made_of
  made_valid h e =
      ap (λ (l : List Bool). word_valid h (information ++ l) dvcc) (sym (append-nil checked))
      ∙ carries_own (λ (u : List Bool). checksum_of u dvcc) (h + 48) information [] (checksum_below information dvcc) (omega (arith, information_length))

  -- and the message is in it
  pub made_message : {h : ℕ} → length header ≡ h → message < 2 ^ 48 → message_in h (made_of header message dvcc) ≡ message
  unfolding made_of
  made_message {h} e below =
      ap (λ (w : List Bool). packed (take 48 (drop h w))) (append_assoc header (unpacked 48 message) checked)
      ∙ ap (λ (w : List Bool). packed (take 48 w)) (drop_at header (unpacked 48 message ++ checked) h e)
      ∙ ap packed (take_at (unpacked 48 message) checked 48 (unpacked-length 48 message)) ∙ packed-unpacked_below 48 message below

  -- ---- as bytes
  module _ {word : List ℕ} (made : word ≡ bytes (made_of header message dvcc)) where
    pub made_bits : bits word ≡ made_of header message dvcc
    made_bits = ap bits made ∙ bits-bytes (made_of header message dvcc)
