-- What `encode` makes of a word: its bytes, and their coded bits. Assumes nothing.
use mathlib.Core.Path.{◌≡◌, ap, ◌∙◌}
use mathlib.Core.Bool.{Bool}
use mathlib.Core.List.{List, [], ◌∷◌}
use Prim.Native.Nat.{ℕ}
use mir.Val.{bool_byte}
use Rattle.bits.specs.Bits.{bit, bits, bytes}
use Rattle.words.specs.Words.{made_of}
use Rattle.words.proofs.Made.{flag_bit, made_bits}
use Rattle.facch.specs.Words.{word_of, tail_biting}

module _ (continuation : Bool) (message dvcc : ℕ) {flag : ℕ} (told : flag ≡ bool_byte continuation) {word : List ℕ} (completed : word ≡ bytes (made_of (bit flag ∷ []) message dvcc)) where
  made : word ≡ bytes (word_of continuation message dvcc)
  made = completed ∙ ap (λ (b : Bool). bytes (made_of (b ∷ []) message dvcc)) (ap bit told ∙ flag_bit continuation)

  -- what `encode_word` gives
  pub word-coded : {coded : List ℕ} → coded ≡ bytes (tail_biting (bits word)) → coded ≡ bytes (tail_biting (word_of continuation message dvcc))
  word-coded e = e ∙ ap (λ (u : List Bool). bytes (tail_biting u)) (made_bits (continuation ∷ []) message dvcc made)
