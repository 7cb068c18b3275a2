-- DCCH: the contracts of both decodings settle the answer and the bits that they leave. Assumes nothing.
use mathlib.Core.Path.{◌≡◌, refl, sym, subst, ◌∙◌}
use mathlib.Core.Bool.{Bool, true, false}
use mathlib.Core.List.{List, reverse}
use Prim.Native.Nat.{ℕ}
use lib.ListN.{length}
use lib.Ieee.{Float, nan}
use Rattle.std.specs.Prelude.{Result, Ok, Err}
use Rattle.bits.specs.Bits.{bits}
use Rattle.bits.specs.Arguments.{Arguments}
use Rattle.trellis.proofs.Searching.{first_unique}
use Rattle.viterbi.specs.Hard.{weight}
use Rattle.soft.specs.Reliability.{all_finite}
use Rattle.dcch_interleaver.specs.declared.BlockFormat.{BlockFormat}
use Rattle.dcch_interleaver.specs.Wire.{deinterleaved}
use Rattle.dcch.specs.declared.crc.CrcMode.{CrcMode}
use Rattle.dcch.specs.Crc.{block_valid}
use Rattle.bits.specs.declared.Refusal.{Refusal}
use Rattle.dcch.specs.Blocks.{decode_arguments, Finished, Settled, Decoding}
use Rattle.dcch.specs.SoftBlocks.{soft_arguments, SoftEnd, SoftDecoding}

abbrev Same : Result ℕ Refusal → Result ℕ Refusal → List ℕ → List ℕ → Type 0
Same r s one other = (r ≡ s) × (one ≡ other)

module _ {dvcc : ℕ} {mode : CrcMode} {information₀ one other : List ℕ} {r s : Result ℕ Refusal} where
  one_finished : {inputs : List Bool} {corrected : ℕ} → Finished inputs corrected dvcc mode information₀ one r → Finished inputs corrected dvcc mode information₀ other s → Same r s one other
  one_finished {inputs} {corrected} p q = go (block_valid (length information₀) inputs dvcc mode) refl
    where
      go : (b : Bool) → block_valid (length information₀) inputs dvcc mode ≡ b → Same r s one other
      go true e = let a = p.taken e in let b = q.taken e in (a.0 ∙ sym b.0, a.1 ∙ sym b.1)
      go false e = let a = p.failed e in let b = q.failed e in (a.0 ∙ sym b.0, a.1 ∙ sym b.1)

  one_settled : {f : BlockFormat} {block : List ℕ} → Settled f block dvcc mode information₀ one r → Settled f block dvcc mode information₀ other s → Same r s one other
  one_settled {f} {block} p q =
      let same : q.word ≡ p.word =
      first_unique q.word p.word (q.first.nearest.word.steps ∙ sym p.first.nearest.word.steps) q.first p.first in
      one_finished p.finished
      (subst (λ (w : List Bool). Finished (reverse w) (weight (deinterleaved f false (bits block)) w) dvcc mode information₀ other s) same q.finished)

  pub dcch_one_answer : {f : BlockFormat} {block : List ℕ} → Decoding f block dvcc mode information₀ one r → Decoding f block dvcc mode information₀ other s → Same r s one other
  dcch_one_answer {f} {block} p q = go (decode_arguments f block (length information₀)) refl
    where
      go : (l : Arguments) → decode_arguments f block (length information₀) ≡ l → Same r s one other
      go (Ok tt) e = one_settled (p.settled e) (q.settled e)
      go (Err why) e = let a = p.declined why e in let b = q.declined why e in (a.0 ∙ sym b.0, a.1 ∙ sym b.1)

  one_end : {count : List Bool → List Float → ℕ} {f : BlockFormat} {block : List Float} → SoftEnd count f block dvcc mode information₀ one r
      → SoftEnd count f block dvcc mode information₀ other s → Same r s one other
  one_end {count} {f} {block} p q =
      let same : q.word ≡ p.word = q.survivor ∙ sym p.survivor in
      one_finished p.finished
      (subst (λ (w : List Bool). Finished (reverse w) (count (reverse w) (deinterleaved f nan block)) dvcc mode information₀ other s) same q.finished)

  pub dcch_soft_one_answer : {f : BlockFormat} {block : List Float} → SoftDecoding f block dvcc mode information₀ one r → SoftDecoding f block dvcc mode information₀ other s
      → Same r s one other
  dcch_soft_one_answer {f} {block} p q = go (soft_arguments f (length block) (length information₀)) refl
    where
      finite : soft_arguments f (length block) (length information₀) ≡ Ok tt → (b : Bool) → all_finite block ≡ b → Same r s one other
      finite e true t = one_end (p.settled e t) (q.settled e t)
      finite e false t = let a = p.unreadable e t in let b = q.unreadable e t in (a.0 ∙ sym b.0, a.1 ∙ sym b.1)

      go : (l : Arguments) → soft_arguments f (length block) (length information₀) ≡ l → Same r s one other
      go (Ok tt) e = finite e (all_finite block) refl
      go (Err why) e = let a = p.declined why e in let b = q.declined why e in (a.0 ∙ sym b.0, a.1 ∙ sym b.1)
