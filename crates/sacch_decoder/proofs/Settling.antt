-- The ways out of a decoding. Assumes nothing.
use mathlib.Core.Path.{◌≡◌, sym, ap, ◌∙◌}
use mathlib.Core.Bool.{Bool, false, cond}
use mathlib.Core.List.{List, reverse}
use Prim.Native.Nat.{ℕ}
use lib.ListN.{get_or, get_or-map}
use Rattle.bits.specs.Bits.{bit, bits}
use Rattle.std.specs.Prelude.{Err}
use Rattle.bits.specs.declared.Refusal.TheVariants as refusal
use Rattle.bits.proofs.Binary.{bits-bytes}
use Rattle.trellis.specs.Search.{Found}
use Rattle.trellis.specs.Words.{OfLength}
use Rattle.trellis.specs.declared.Outcome.{Outcome}
use Rattle.viterbi.specs.Hard.{free_weight}
use Rattle.trellis.proofs.Decided.{found_decides}
use Rattle.sacch_decoder.specs.Decoding.{finished, decode_of}
use Rattle.sacch_decoder.proofs.Meaning.{sacch_decided}

-- ---- the word that a search found
module _ (coded : List ℕ) {word : List ℕ} {r : Outcome} (f : Found (OfLength 66) (free_weight (bits coded)) word r) where
  pub word_decides : (dvcc : ℕ) → cond r.tie (Err refusal.Ambiguous) (finished (bits word) r.metric dvcc) ≡ decode_of (bits coded) dvcc
  word_decides dvcc =
      ap (λ (w : List Bool). cond r.tie (Err refusal.Ambiguous) (finished w r.metric dvcc)) (ap bits f.written ∙ bits-bytes (reverse f.word))
      ∙ found_decides (sacch_decided (bits coded) dvcc) r.tie f.nearest f.metric f.tied f.alone
