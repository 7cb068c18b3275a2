-- What a decoding means in the terms of trellis/specs/Search.antt, where 65 bits or more are observed: Ambiguous exactly where two distinct words are nearest; else the
-- nearest word decides. Then the counts of an accepted word. Assumes nothing.
use mathlib.Core.Path.{◌≡◌, refl, sym, subst, ◌∙◌}
use mathlib.Core.Logic.{inl, inr}
use mathlib.Core.Bool.{Bool, true, false, cond}
use mathlib.Core.List.{List}
use Prim.Native.Nat.{ℕ, ◌<◌, ◌≤◌}
use native.Mathlib.Decide.{dec_lt}
use native.Mathlib.Omega.{arith}
use borrow.Author.Tests.{lt-ltb, le-ltb}
use Rattle.bits.specs.Observed.{observed_count}
use Rattle.std.specs.Prelude.{Result, Ok, Err}
use Rattle.bits.specs.declared.Refusal.{Refusal}
use Rattle.bits.specs.declared.Refusal.TheVariants as refusal
use Rattle.bits.proofs.Erased.{erased_tally_le}
use Rattle.trellis.specs.Search.{Ambiguous}
use Rattle.trellis.specs.Words.{OfLength}
use Rattle.trellis.proofs.AllWords.{all_lists}
use Rattle.trellis.proofs.Decided.{Decided, nearest_decide, only_shared}
use Rattle.words.specs.Words.{word_valid}
use Rattle.facch.specs.declared.FacchWord.{FacchWord}
use Rattle.facch.specs.Decoding.{content_of, finished, decode_of}
use Rattle.facch.specs.Search.{weight}
use Rattle.facch.specs.Words.{tail_biting}

-- no end of a word is Ambiguous
finished_clear : (w : List Bool) (corrected observed dvcc : ℕ) → finished w corrected observed dvcc ≡ Err refusal.Ambiguous → ⊥
unfolding finished
finished_clear w corrected observed dvcc = by (word_valid 1 w dvcc)
  where
    by : (right : Bool) → cond right (Ok (content_of w corrected observed)) (Err refusal.Crc) ≡ Err refusal.Ambiguous → ⊥
    by true e = let z : ◌≡◌ {A = ℕ} 0 1 = cc in omega arith
    by false e = let z : ◌≡◌ {A = ℕ} 0 1 = cc in omega arith

-- the counts of an accepted word: its observed bits are 65 or more, and its corrected bits at most as many
pub record AcceptedCounts (observed : ℕ) (x : FacchWord) : Type 0 where
  pub told : x.observed ≡ observed
  pub enough : 65 ≤ observed
  pub corrected : x.corrected ≤ observed

abbrev pub AcceptedCountsIn : ℕ → Result FacchWord Refusal → Type 0
AcceptedCountsIn observed (Ok x) = AcceptedCounts observed x
AcceptedCountsIn observed (Err why) = Unit {0}

finished_counts : (w : List Bool) (corrected observed dvcc : ℕ) → 65 ≤ observed → corrected ≤ observed → AcceptedCountsIn observed (finished w corrected observed dvcc)
unfolding finished content_of
finished_counts w corrected observed dvcc h k = by (word_valid 1 w dvcc)
  where
    by : (right : Bool) → AcceptedCountsIn observed (cond right (Ok (content_of w corrected observed)) (Err refusal.Crc))
    by true = record { told = refl; enough = h; corrected = k }
    by false = tt

weight_le : (received : List ℕ) (w : List Bool) → weight received w ≤ observed_count received
unfolding weight
weight_le received w = erased_tally_le (tail_biting w) received

module _ (received : List ℕ) (dvcc : ℕ) where
  -- what a word alone decides, with its disagreements
  abbrev by_word : List Bool → ℕ → Result FacchWord Refusal
  by_word w corrected = finished w corrected (observed_count received) dvcc

  pub too_few : observed_count received < 65 → decode_of received dvcc ≡ Err refusal.InsufficientObservations
  unfolding decode_of
  too_few h = rw (lt-ltb (observed_count received) 65 h)

  pub facch-decided : 65 ≤ observed_count received → Decided (OfLength 65) (weight received) by_word (Err refusal.Ambiguous) (decode_of received dvcc)
  unfolding decode_of
  facch-decided h = rw (le-ltb (observed_count received) 65 h) (nearest_decide (all_lists 65) (weight received) by_word (Err refusal.Ambiguous))

  pub facch_only_ambiguous : decode_of received dvcc ≡ Err refusal.Ambiguous → Ambiguous (OfLength 65) (weight received)
  facch_only_ambiguous e = elim (dec_lt (observed_count received) 65)
      [ yes h ↦ few (sym (too_few h) ∙ e) | no h ↦ only_shared (facch-decided (omega arith)) (λ x. x) (λ w n. finished_clear w n (observed_count received) dvcc) e ]
    where
      few : ◌≡◌ {A = Result FacchWord Refusal} (Err refusal.InsufficientObservations) (Err refusal.Ambiguous) → Ambiguous (OfLength 65) (weight received)
      few f = let z : ◌≡◌ {A = ℕ} 0 1 = cc in absurd (omega arith)

  pub facch_counts : AcceptedCountsIn (observed_count received) (decode_of received dvcc)
  facch_counts = elim (dec_lt (observed_count received) 65)
      [ yes h ↦ subst (AcceptedCountsIn (observed_count received)) (sym (too_few h)) tt | no h ↦ by (omega arith) (facch-decided (omega arith)) ]
    where
      by : 65 ≤ observed_count received → Decided (OfLength 65) (weight received) by_word (Err refusal.Ambiguous) (decode_of received dvcc)
          → AcceptedCountsIn (observed_count received) (decode_of received dvcc)
      by h (inl s) =
          subst (AcceptedCountsIn (observed_count received)) (sym s.decides)
          (finished_counts s.word (weight received s.word) (observed_count received) dvcc h (weight_le received s.word))
      by h (inr s) = subst (AcceptedCountsIn (observed_count received)) (sym s.decides) tt
