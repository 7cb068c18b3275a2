-- The ends of a decoding: what its calls are asked, and what each way out answers. Assumes nothing.
use mathlib.Core.Path.{◌≡◌, sym, ap, ap₂, subst, ◌∙◌}
use mathlib.Core.Bool.{Bool, true, false, false≢true}
use mathlib.Core.List.{List, reverse}
use Prim.Native.Nat.{ℕ}
use lib.ListN.{length, take}
use Rattle.std.specs.Prelude.{Ok}
use Rattle.bits.specs.Bits.{bits, all_binary}
use Rattle.bits.specs.Arguments.{Arguments}
use Rattle.bits.specs.declared.Refusal.TheVariants as refusal
use Rattle.bits.proofs.Binary.{bits-bytes, bits-take, binary_bytes}
use Rattle.trellis.specs.Search.{FoundFirst}
use Rattle.trellis.specs.Words.{Terminated}
use Rattle.trellis.specs.declared.Outcome.{Outcome}
use Rattle.trellis.proofs.Decided.{decided_alone, decided_shared}
use Rattle.puncturing.specs.Punctured.{weight}
use Rattle.acelp_cc1.specs.Calls.{Exit, refused_exit, decode_arguments, frame_weight, accepted_exit, decode_of, decoding, decode_call}
use Rattle.acelp_cc1.proofs.Meaning.{acelp-decided}

-- ---- the search has ended
module _ (frame speech₀ : List ℕ) (passed : decode_arguments frame (length speech₀) ≡ Ok tt) {word : List ℕ} {r : Outcome}
    (s : FoundFirst (Terminated 108) (weight (bits (take 208 frame))) word r) where
  over : FoundFirst (Terminated 108) (frame_weight frame) word r
  over = subst (λ (l : List Bool). FoundFirst (Terminated 108) (weight l) word r) (bits-take 208 frame) s

  searched : decode_call frame speech₀ ≡ decode_of frame speech₀
  searched = ap (λ (l : Arguments). decoding l frame speech₀) passed

  pub word_binary : all_binary word ≡ true
  word_binary = ap all_binary s.found.written ∙ binary_bytes (reverse s.found.word)

  pub tied_end : r.tie ≡ true → refused_exit refusal.Ambiguous speech₀ ≡ decode_call frame speech₀
  tied_end t = sym (searched ∙ decided_shared (acelp-decided frame speech₀) (over.found.tied t))

  pub alone_end : {x : Exit} → r.tie ≡ false → x ≡ accepted_exit frame (bits word) r.metric → x ≡ decode_call frame speech₀
  alone_end t e =
      e ∙ ap₂ (accepted_exit frame) (ap bits over.found.written ∙ bits-bytes (reverse over.found.word)) over.found.metric
      ∙ sym (searched ∙ decided_alone (acelp-decided frame speech₀) over.found.nearest (λ a. false≢true (sym t ∙ over.found.alone a)))
