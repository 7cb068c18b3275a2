-- A ring laid out from its oldest number on: its two parts, and what stands where. Assumes nothing.
use mathlib.Core.Path.{◌≡◌, sym, ap, ap₂, ◌∙◌}
use mathlib.Core.List.{List, ◌++◌}
use Prim.Native.Nat.{ℕ, ◌+◌, ◌-◌, ◌%◌, ◌<◌}
use native.Mathlib.Decide.{dec_lt}
use native.Mathlib.Omega.{arith}
use borrow.Rule.Slice.PartMut.{put_mid}
use lib.ListN.{length, get_or, take, drop, replicate, get_or-append, length-append, length-drop, length-replicate, take-append-drop}
use lib.Seq.{length-take-le, get_or-drop, get_or-take, take_at}
use Rattle.std.proofs.lemmas.List.{get_or-append_right}
use Rattle.std.proofs.lemmas.Slice.{drop-append-drop, drop-put_mid, take-put_mid}
use Rattle.bits.specs.Places.{listed}
use Rattle.bits.proofs.Listed.{length-listed, get_d_listed, is_listed}
use Rattle.sacch_interleaver.specs.Diagonal.{laid_out}

module _ (ring : List ℕ) (next : ℕ) where
  -- the k-th from the oldest
  abbrev from_oldest : ℕ → ℕ
  from_oldest k = get_or ring ((next + k) % 12) 0

  -- ---- what stands where
  pub laid_length : length (laid_out ring next) ≡ 23
  unfolding laid_out
  laid_length = length-append (listed 12 from_oldest) (replicate 11 0) ∙ ap₂ ◌+◌ (length-listed 12 from_oldest) (length-replicate {A = ℕ} 11 0)

  pub laid_at : (k : ℕ) → k < 12 → get_or (laid_out ring next) k 0 ≡ get_or ring ((next + k) % 12) 0
  unfolding laid_out
  laid_at k h =
      sym (get_or-take 12 (laid_out ring next) k 0 h)
      ∙ ap (λ (l : List ℕ). get_or l k 0) (take_at (listed 12 from_oldest) (replicate 11 0) 12 (length-listed 12 from_oldest)) ∙ get_d_listed 12 from_oldest 0 k h

  -- ---- its part from the oldest on, then the part before
  module _ (size : length ring ≡ 12) (inside : next < 12) where
    older_length : length (drop next ring) ≡ 12 - next
    older_length = length-drop next ring ∙ ap (λ (n : ℕ). n - next) size

    newer_length : length (take next ring) ≡ next
    newer_length = length-take-le next ring (omega arith)

    turned : drop next ring ++ take next ring ≡ listed 12 from_oldest
    turned = is_listed 12 from_oldest 0 _ (length-append (drop next ring) (take next ring) ∙ ap₂ ◌+◌ older_length newer_length ∙ omega arith) at
      where
        at : (k : ℕ) → k < 12 → get_or (drop next ring ++ take next ring) k 0 ≡ from_oldest k
        at k b = elim (dec_lt k (12 - next)) [
          | yes l ↦
              let place : next + k ≡ (next + k) % 12 = omega arith in
              get_or-append (drop next ring) (take next ring) 0 k (omega (arith, older_length)) ∙ get_or-drop next ring k 0 ∙ ap (λ (n : ℕ). get_or ring n 0) place
          | no g ↦
              let place : k - (12 - next) ≡ (next + k) % 12 = omega arith in
              get_or-append_right (drop next ring) (take next ring) (12 - next) k 0 older_length (omega arith)
              ∙ get_or-take next ring (k - (12 - next)) 0 (omega arith) ∙ ap (λ (n : ℕ). get_or ring n 0) place
        ]

    -- both written over zeros
    pub laid : {older newer : List ℕ} → older ≡ drop next ring → newer ≡ take next ring
        → put_mid (12 - next) (12 - (12 - next)) (older ++ drop (12 - next) (replicate 23 0)) newer ≡ laid_out ring next
    unfolding laid_out
    laid {older} {newer} eo en =
        let lo : length older ≡ 12 - next = ap length eo ∙ older_length in
        let ln : length newer ≡ next = ap length en ∙ newer_length in
        let zeros : List ℕ = replicate 23 0 in
        let over : List ℕ = older ++ drop (12 - next) zeros in
        let room : length over ≡ length older + length (drop (12 - next) zeros) = length-append older (drop (12 - next) zeros) in
        sym (take-append-drop 12 (put_mid (12 - next) (12 - (12 - next)) over newer))
        ∙ ap₂ ◌++◌
        (take-put_mid (12 - next) (12 - (12 - next)) over newer 12 (omega (arith, ln)) (omega (arith, lo, room))
        ∙ ap₂ ◌++◌ (take_at older (drop (12 - next) zeros) (12 - next) lo ∙ eo) en ∙ turned)
        (drop-put_mid (12 - next) (12 - (12 - next)) over newer 12 (omega arith) (omega (arith, lo, room)) (omega (arith, ln))
        ∙ drop-append-drop (12 - next) zeros older 12 (omega arith) lo)
