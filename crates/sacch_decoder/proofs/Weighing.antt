-- What a word weighs over the 32 starting memories. Of coded bits as they were sent from one of them, their word weighs nothing and no other does, so that
-- it is decoded. Assumes nothing.
use mathlib.Core.Path.{◌≡◌, refl, sym, ap, ap₂, ◌∙◌}
use mathlib.Core.Bool.{Bool}
use mathlib.Core.List.{List, reverse, reverse-reverse}
use Prim.Native.Nat.{ℕ, ◌*◌, ◌≤◌, ◌<◌}
use native.Mathlib.Omega.{arith}
use lib.ListN.{length, length-reverse}
use Rattle.bits.specs.Bits.{disagreements}
use Rattle.bits.proofs.Tally.{disagreements_self, disagreements_none}
use Rattle.coding.specs.Codes.{coded, dcch}
use Rattle.coding.specs.Registers.{memory_high}
use Rattle.coding.proofs.Coded.{coded-length}
use Rattle.coding.proofs.Unique.{unique}
use Rattle.trellis.specs.Search.{Nearest}
use Rattle.trellis.specs.Words.{OfLength}
use Rattle.trellis.proofs.FreeStart.{least_le, least_at}
use Rattle.viterbi.specs.Hard.{weight_from, free_weight}
use Rattle.sacch_decoder.specs.Decoding.{finished, decode_of}
use Rattle.sacch_decoder.proofs.Meaning.{settled}

-- a word's disagreements from a memory; it is newest first
abbrev pub from : ℕ → List Bool → List Bool → ℕ
from s received w = disagreements (coded dcch (memory_high s) (reverse w)) received

module _ (received w : List Bool) where
  pub weight_le : (s : ℕ) → s < 32 → free_weight received w ≤ from s received w
  unfolding free_weight weight_from
  weight_le s h = least_le 31 (λ t. weight_from (memory_high t) received w) s (omega arith)

  pub weight_at : (s : ℕ) × (s ≤ 31) × (free_weight received w ≡ from s received w)
  unfolding free_weight weight_from
  weight_at = least_at 31 (λ t. weight_from (memory_high t) received w)

-- ---- bits as they were sent, v from the memory s
module _ (s : ℕ) (hs : s < 32) (v : List Bool) (size : length v ≡ 66) where
  sent : List Bool
  sent = coded dcch (memory_high s) v

  weighs_nothing : free_weight sent (reverse v) ≡ 0
  unfolding sent
  weighs_nothing =
      let e : from s sent (reverse v) ≡ 0 = ap (λ (u : List Bool). disagreements (coded dcch (memory_high s) u) sent) (reverse-reverse v) ∙ disagreements_self sent in
      omega (arith, weight_le sent (reverse v) s hs)

  only_sent : (u : List Bool) → length u ≡ 66 → free_weight sent u ≡ 0 → u ≡ reverse v
  unfolding sent
  only_sent u hu e =
      let t = weight_at sent u in
      let hr : length (reverse u) ≡ 66 = length-reverse u ∙ hu in
      let same : coded dcch (memory_high t.0) (reverse u) ≡ sent =
      disagreements_none (coded dcch (memory_high t.0) (reverse u)) sent
      (coded-length dcch (memory_high t.0) (reverse u) ∙ ap (λ (n : ℕ). n * 2) (hr ∙ sym size) ∙ sym (coded-length dcch (memory_high s) v)) (sym t.2 ∙ e) in
      sym (reverse-reverse u) ∙ ap reverse (unique (memory_high t.0) (memory_high s) (reverse u) v refl refl (omega arith) same).0

  nearest_sent : Nearest (OfLength 66) (free_weight sent) (reverse v)
  nearest_sent = record { word = length-reverse v ∙ size; least = λ u h. omega (arith, weighs_nothing) }

  only_nearest : (u : List Bool) → Nearest (OfLength 66) (free_weight sent) u → u ≡ reverse v
  only_nearest u n = only_sent u n.word (omega (arith, n.least (reverse v) (length-reverse v ∙ size), weighs_nothing))

  pub as_sent : (dvcc : ℕ) → decode_of (coded dcch (memory_high s) v) dvcc ≡ finished v 0 dvcc
  unfolding sent
  as_sent dvcc =
      settled sent dvcc nearest_sent (λ a. a.distinct (only_nearest a.one a.one_nearest ∙ sym (only_nearest a.other a.other_nearest)))
      ∙ ap₂ (λ (w : List Bool) (n : ℕ). finished w n dvcc) (reverse-reverse v) weighs_nothing
