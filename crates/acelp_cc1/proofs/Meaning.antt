-- What a decoding means in the terms of trellis/specs/Search.antt: Ambiguous, with nothing written, exactly where two distinct words are nearest; else the nearest
-- word is accepted. Assumes nothing.
use mathlib.Core.Path.{◌≡◌}
use mathlib.Core.Bool.{Bool}
use mathlib.Core.List.{List, reverse}
use Prim.Native.Nat.{ℕ}
use native.Mathlib.Omega.{arith}
use Rattle.std.specs.Prelude.{Err}
use Rattle.bits.specs.declared.Refusal.TheVariants as refusal
use Rattle.trellis.specs.Search.{Ambiguous}
use Rattle.trellis.specs.Words.{Terminated}
use Rattle.trellis.proofs.AllWords.{terminated_lists}
use Rattle.trellis.proofs.Decided.{Decided, nearest_decide, only_shared}
use Rattle.acelp_cc1.specs.Calls.{Exit, refused_exit, frame_weight, accepted_exit, decode_of}

module _ (frame speech : List ℕ) where
  -- what a word alone decides, with its disagreements
  abbrev by_word : List Bool → ℕ → Exit
  by_word w corrected = accepted_exit frame (reverse w) corrected

  pub acelp-decided : Decided (Terminated 108) (frame_weight frame) by_word (refused_exit refusal.Ambiguous speech) (decode_of frame speech)
  unfolding decode_of
  acelp-decided = nearest_decide (terminated_lists 108 (omega arith)) (frame_weight frame) by_word (refused_exit refusal.Ambiguous speech)

  pub acelp_only_ambiguous : (decode_of frame speech).answer ≡ Err refusal.Ambiguous → Ambiguous (Terminated 108) (frame_weight frame)
  unfolding accepted_exit
  acelp_only_ambiguous = only_shared acelp-decided (λ x. x.answer) (λ w n e. let z : ◌≡◌ {A = ℕ} 0 1 = cc in omega arith)
