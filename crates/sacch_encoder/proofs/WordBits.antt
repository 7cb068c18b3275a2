-- The bytes of a word, and its sixes. Assumes nothing.
use mathlib.Core.Path.{◌≡◌, ap, ◌∙◌}
use mathlib.Core.Bool.{Bool, false}
use mathlib.Core.List.{List, [], ◌∷◌}
use Prim.Native.Nat.{ℕ, ◌*◌, ◌/◌, ◌<◌}
use native.Mathlib.Omega.{arith}
use lib.ListN.{length, get_or, take, drop}
use mir.Val.{bool_byte}
use Rattle.std.specs.Simd.{first_chunks}
use Rattle.bits.specs.Bits.{bit, bits, bytes}
use Rattle.bits.specs.Numbers.{packed}
use Rattle.bits.proofs.Chunks.{chunk_at}
use Rattle.bits.proofs.Binary.{bits-take, bits-drop}
use Rattle.words.specs.Words.{made_of}
use Rattle.words.proofs.Made.{flag_bit, made_bits}
use Rattle.sacch_encoder.specs.Words.{word_of}

-- ---- the bytes of a word, whose first tells whether it continues
module _ (continuation : Bool) (message dvcc : ℕ) {first : ℕ} {word : List ℕ} (told : first ≡ bool_byte continuation)
    (completed : word ≡ bytes (made_of (bit first ∷ false ∷ []) message dvcc)) where
  made : word ≡ bytes (word_of continuation message dvcc)
  made = completed ∙ ap (λ (b : Bool). bytes (made_of (b ∷ false ∷ []) message dvcc)) (ap bit told ∙ flag_bit continuation)

  pub filled_bits : bits word ≡ word_of continuation message dvcc
  filled_bits = made_bits (continuation ∷ false ∷ []) message dvcc made

-- ---- the six bytes of slot k
module _ (word : List ℕ) {sixes : List (List ℕ)} (cut : sixes ≡ first_chunks 6 (length word / 6) word) (size : length word ≡ 66) (k : ℕ) (h : k < 11) where
  six_at : get_or sixes k [] ≡ take 6 (drop (k * 6) word)
  six_at = ap (λ (l : List (List ℕ)). get_or l k []) cut ∙ chunk_at 6 (length word / 6) word k (omega arith)

  pub six_packed : packed (bits (get_or sixes k [])) ≡ packed (take 6 (drop (6 * k) (bits word)))
  six_packed =
      ap (λ (l : List ℕ). packed (bits l)) six_at ∙ ap packed (bits-take 6 (drop (k * 6) word) ∙ ap (take 6) (bits-drop (k * 6) word))
      ∙ ap (λ (i : ℕ). packed (take 6 (drop i (bits word)))) (omega arith)
