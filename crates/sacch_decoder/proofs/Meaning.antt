-- What a decoding means in the terms of trellis/specs/Search.antt: Ambiguous exactly where two distinct words are nearest; else the nearest word decides.
-- Assumes nothing.
use mathlib.Core.Path.{◌≡◌, refl, sym, ap, ◌∙◌}
use mathlib.Core.Bool.{Bool, true, false, cond}
use mathlib.Core.List.{List, reverse}
use Prim.Native.Nat.{ℕ, ◌≤◌}
use native.Mathlib.Omega.{arith}
use lib.ListN.{get_or}
use Rattle.std.specs.Prelude.{Result, Ok, Err}
use Rattle.bits.specs.declared.Refusal.{Refusal}
use Rattle.bits.specs.declared.Refusal.TheVariants as refusal
use Rattle.trellis.specs.Search.{Nearest, Ambiguous}
use Rattle.trellis.specs.Words.{OfLength}
use Rattle.viterbi.specs.Hard.{free_weight}
use Rattle.viterbi.proofs.Weights.{free_le}
use Rattle.trellis.proofs.AllWords.{all_lists}
use Rattle.trellis.proofs.Members.{some_nearest}
use Rattle.trellis.proofs.Decided.{Decided, nearest_decide, decided_alone, decided_shared, only_shared}
use Rattle.words.specs.Words.{word_valid}
use Rattle.sacch_decoder.specs.Decoding.{content_of, finished, decode_of}
use Rattle.sacch_decoder.specs.declared.SacchWord.{SacchWord}

-- ---- one word
-- two answers that are told apart
clash : {A : Type 0} {x : SacchWord} {why : Refusal} {a : Result SacchWord Refusal} → a ≡ Ok x → a ≡ Err why → A
clash e f = let z : ◌≡◌ {A = ℕ} 0 1 = cc in absurd (omega arith)

module _ (w : List Bool) (corrected dvcc : ℕ) where
  -- no end of it is Ambiguous
  finished_clear : finished w corrected dvcc ≡ Err refusal.Ambiguous → ⊥
  unfolding finished
  finished_clear = by (get_or w 1 false) (word_valid 2 w dvcc)
    where
      by : (reserved right : Bool) → cond reserved (Err refusal.Reserved) (cond right (Ok (content_of w corrected)) (Err refusal.Crc)) ≡ Err refusal.Ambiguous → ⊥
      by true right e = let z : ◌≡◌ {A = ℕ} 0 1 = cc in omega arith
      by false true e = let z : ◌≡◌ {A = ℕ} 0 1 = cc in omega arith
      by false false e = let z : ◌≡◌ {A = ℕ} 0 1 = cc in omega arith

  pub record Taken (x : SacchWord) : Type 0 where
    pub reserved : get_or w 1 false ≡ false
    pub right : word_valid 2 w dvcc ≡ true
    pub content : x ≡ content_of w corrected

  -- where it is accepted
  pub finished-taken : {x : SacchWord} → finished w corrected dvcc ≡ Ok x → Taken x
  unfolding finished
  finished-taken {x} = by (get_or w 1 false) refl (word_valid 2 w dvcc) refl
    where
      by : (reserved : Bool) → get_or w 1 false ≡ reserved → (right : Bool) → word_valid 2 w dvcc ≡ right
          → cond reserved (Err refusal.Reserved) (cond right (Ok (content_of w corrected)) (Err refusal.Crc)) ≡ Ok x → Taken x
      by true a right b e = clash e refl
      by false a true b e = record { reserved = a; right = b; content = cc }
      by false a false b e = clash e refl

  pub taken-finished : get_or w 1 false ≡ false → word_valid 2 w dvcc ≡ true → finished w corrected dvcc ≡ Ok (content_of w corrected)
  unfolding finished
  taken-finished a b = rw (a, b)

-- ---- the received bits
module _ (received : List Bool) (dvcc : ℕ) where
  -- what a word alone decides, with its disagreements
  abbrev by_word : List Bool → ℕ → Result SacchWord Refusal
  by_word w corrected = finished (reverse w) corrected dvcc

  pub sacch_decided : Decided (OfLength 66) (free_weight received) by_word (Err refusal.Ambiguous) (decode_of received dvcc)
  unfolding decode_of
  sacch_decided = nearest_decide (all_lists 66) (free_weight received) by_word (Err refusal.Ambiguous)

  pub ambiguous : Ambiguous (OfLength 66) (free_weight received) → decode_of received dvcc ≡ Err refusal.Ambiguous
  ambiguous = decided_shared sacch_decided

  pub only_ambiguous : decode_of received dvcc ≡ Err refusal.Ambiguous → Ambiguous (OfLength 66) (free_weight received)
  only_ambiguous = only_shared sacch_decided (λ x. x) (λ w n. finished_clear (reverse w) n dvcc)

  -- the nearest word, where it is alone, decides
  pub settled : {w : List Bool} → Nearest (OfLength 66) (free_weight received) w → (Ambiguous (OfLength 66) (free_weight received) → ⊥)
      → decode_of received dvcc ≡ finished (reverse w) (free_weight received w) dvcc
  settled = decided_alone sacch_decided

  -- and there is one
  pub one_settled : (Ambiguous (OfLength 66) (free_weight received) → ⊥)
      → (w : List Bool) × Nearest (OfLength 66) (free_weight received) w × (decode_of received dvcc ≡ finished (reverse w) (free_weight received w) dvcc)
  one_settled none = let r = some_nearest (all_lists 66) (free_weight received) in (r.0, r.1, settled r.1 none)

  -- an accepted word: one word alone is nearest, its second bit is zero and its checksum is right
  pub record Accepted (x : SacchWord) : Type 0 where
    pub word : List Bool
    pub nearest : Nearest (OfLength 66) (free_weight received) word
    pub single : Ambiguous (OfLength 66) (free_weight received) → ⊥
    pub taken : Taken (reverse word) (free_weight received word) dvcc x

  pub accepted_word : {x : SacchWord} → decode_of received dvcc ≡ Ok x → Accepted x
  accepted_word {x} e =
      let none : Ambiguous (OfLength 66) (free_weight received) → ⊥ = λ a. clash e (ambiguous a) in
      let r = one_settled none in
      record { word = r.0; nearest = r.1; single = none; taken = finished-taken (reverse r.0) (free_weight received r.0) dvcc (sym r.2 ∙ e) }

  -- it has no more corrected bits than coded ones
  pub corrected_le : {x : SacchWord} → decode_of received dvcc ≡ Ok x → x.corrected ≤ 132
  unfolding content_of
  corrected_le {x} e =
      let a = accepted_word e in
      let told : x.corrected ≡ free_weight received a.word = ap (λ (y : SacchWord). y.corrected) a.taken.content in
      omega (arith, told, free_le received a.word, a.nearest.word)
