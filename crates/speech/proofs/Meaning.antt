-- What a decoding means in the terms of trellis/specs/Search.antt: Ambiguous, with nothing written, exactly where two distinct words are nearest; else the nearest
-- word is accepted. Assumes nothing.
use mathlib.Core.Path.{◌≡◌}
use mathlib.Core.Bool.{Bool}
use mathlib.Core.List.{List, reverse}
use Prim.Native.Nat.{ℕ}
use native.Mathlib.Omega.{arith}
use Rattle.std.specs.Prelude.{Err}
use Rattle.bits.specs.declared.Refusal.TheVariants as refusal
use Rattle.trellis.specs.Search.{Ambiguous}
use Rattle.trellis.specs.Words.{Terminated}
use Rattle.trellis.proofs.AllWords.{terminated_lists}
use Rattle.trellis.proofs.Decided.{Decided, nearest_decide, only_shared}
use Rattle.speech.specs.Calls.{Exit, refused_exit, frame_weight, accepted_exit, decode_of}

module _ (frame class_one class_two : List ℕ) where
  -- what a word alone decides, with its disagreements
  abbrev by_word : List Bool → ℕ → Exit
  by_word w corrected = accepted_exit frame (reverse w) corrected

  pub vselp_decided : Decided (Terminated 89) (frame_weight frame) by_word (refused_exit refusal.Ambiguous class_one class_two) (decode_of frame class_one class_two)
  unfolding decode_of
  vselp_decided = nearest_decide (terminated_lists 89 (omega arith)) (frame_weight frame) by_word (refused_exit refusal.Ambiguous class_one class_two)

  pub vselp_only_ambiguous : (decode_of frame class_one class_two).answer ≡ Err refusal.Ambiguous → Ambiguous (Terminated 89) (frame_weight frame)
  unfolding accepted_exit
  vselp_only_ambiguous = only_shared vselp_decided (λ x. x.answer) (λ w n e. let z : ◌≡◌ {A = ℕ} 0 1 = cc in omega arith)
