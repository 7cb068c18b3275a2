-- Decoding the coded bits of a word, sent from any memory, gives its content with nothing corrected. Assumes nothing.
use mathlib.Core.Path.{◌≡◌, refl, ap, ◌∙◌}
use mathlib.Core.Bool.{Bool, false}
use mathlib.Core.List.{[], ◌∷◌, reverse}
use Prim.Native.Nat.{ℕ, ◌^◌, ◌<◌}
use lib.ListN.{length, take}
use Rattle.std.specs.Prelude.{Ok}
use Rattle.bits.specs.Numbers.{packed}
use Rattle.coding.specs.Codes.{coded, dcch}
use Rattle.coding.specs.Registers.{memory_high}
use Rattle.words.specs.Words.{made_of}
use Rattle.words.proofs.Made.{made_length, made_valid, made_message}
use Rattle.sacch_encoder.specs.Words.{word_of}
use Rattle.sacch_decoder.specs.Decoding.{content_of, decode_of}
use Rattle.sacch_decoder.proofs.Meaning.{taken-finished}
use Rattle.sacch_decoder.proofs.Weighing.{as_sent}

module _ (continuation : Bool) (message dvcc : ℕ) where
  pub word-length : length (word_of continuation message dvcc) ≡ 66
  word-length = made_length (continuation ∷ false ∷ []) message dvcc

  content_own : message < 2 ^ 48 → content_of (word_of continuation message dvcc) 0
      ≡ record { continuation = continuation; message = message; corrected = 0; ending = packed (take 5 (reverse (word_of continuation message dvcc))) }
  unfolding content_of made_of
  content_own h =
      ap (λ (n : ℕ). record { continuation = continuation; message = n; corrected = 0; ending = packed (take 5 (reverse (word_of continuation message dvcc))) })
      (made_message (continuation ∷ false ∷ []) message dvcc refl h)

  pub sacch_round_trip : (s : ℕ) → s < 32 → message < 2 ^ 48 → decode_of (coded dcch (memory_high s) (word_of continuation message dvcc)) dvcc
      ≡ Ok (record { continuation = continuation; message = message; corrected = 0; ending = packed (take 5 (reverse (word_of continuation message dvcc))) })
  unfolding made_of
  sacch_round_trip s hs h =
      as_sent s hs (word_of continuation message dvcc) word-length dvcc
      ∙ taken-finished (word_of continuation message dvcc) 0 dvcc refl (made_valid (continuation ∷ false ∷ []) message dvcc 2 refl) ∙ ap Ok (content_own h)
