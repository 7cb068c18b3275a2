-- The search of a block's reliabilities, cell by cell: what its calls are asked, and the end of the decoding. Assumes nothing.
use mathlib.Core.Path.{◌≡◌, sym, ap, subst, ◌∙◌}
use mathlib.Core.Bool.{Bool, true}
use mathlib.Core.List.{List, ◌++◌, reverse}
use Prim.Native.Nat.{ℕ, ◌+◌, ◌*◌, ◌≤◌}
use native.Mathlib.Omega.{arith}
use lib.ListN.{length, take, drop, replicate}
use lib.Seq.{length-take-le}
use lib.Ieee.{Float}
use Rattle.std.specs.Prelude.{Result}
use Rattle.bits.specs.Bits.{bits, all_binary}
use Rattle.bits.proofs.Binary.{bits-bytes, binary_bytes}
use Rattle.bits.proofs.LentPart.{became, became_length}
use Rattle.coding.specs.Codes.{coded, dcch}
use Rattle.coding.specs.Registers.{memory_high}
use Rattle.coding.specs.Runs.{Encoded}
use Rattle.soft.specs.Reliability.{sign_count}
use Rattle.soft.specs.Soft.{SoftFound}
use Rattle.dcch.specs.declared.crc.CrcMode.{CrcMode}
use Rattle.bits.specs.declared.Refusal.{Refusal}
use Rattle.dcch.specs.Blocks.{Finished}
use Rattle.dcch.specs.SoftBlocks.{signs_of, CellsSearched}

-- ---- `count_signs`: the first places of 260 zeros become the coded bits
module _ (word : List ℕ) (values : List Float) (small : length word ≤ 130) (twice : length values ≡ length word * 2) (out : List ℕ)
    (kept : length out ≡ length (take {A = ℕ} (length values) (replicate 260 0))) where
  pub signs_counted : {r next : ℕ} → Encoded 0 word out next → r ≡ sign_count (bits (take (length values) (out ++ drop {A = ℕ} (length values) (replicate 260 0)))) values
      → r ≡ signs_of (bits word) values
  unfolding signs_of
  signs_counted e c =
      let part : take (length values) (out ++ drop {A = ℕ} (length values) (replicate 260 0)) ≡ out = became (length values) (replicate 260 0) (omega arith) out kept in
      c ∙ ap (λ (u : List Bool). sign_count u values) (ap bits (part ∙ e.bits) ∙ bits-bytes (coded dcch (memory_high 0) (bits word)))

-- ---- `search_cells`: the first places of 130 zeros become the word
module _ (values : List Float) (information : List ℕ) (small : length information ≤ 109) (twice : length values ≡ (length information + 21) * 2) where
  module _ (word : List ℕ) (kept : length word ≡ length (take {A = ℕ} (length information + 21) (replicate 130 0)))
      (g : SoftFound values (length (take {A = ℕ} (length information + 21) (replicate 130 0))) word) where
    part : take (length information + 21) (word ++ drop {A = ℕ} (length information + 21) (replicate 130 0)) ≡ word
    part = became (length information + 21) (replicate 130 0) (omega arith) word kept

    size : length (take (length information + 21) (word ++ drop {A = ℕ} (length information + 21) (replicate 130 0))) ≡ length information + 21
    size = ap length part ∙ became_length (length information + 21) (replicate 130 0) (omega arith) word kept

    binary_part : all_binary (take (length information + 21) (word ++ drop {A = ℕ} (length information + 21) (replicate 130 0))) ≡ true
    binary_part = ap all_binary (part ∙ g.written) ∙ binary_bytes (reverse g.word)

    pub asks_finish : (all_binary (take (length information + 21) (word ++ drop {A = ℕ} (length information + 21) (replicate 130 0))) ≡ true)
        × (length (take (length information + 21) (word ++ drop {A = ℕ} (length information + 21) (replicate 130 0))) ≡ length information + 21) × (length information ≤ 109)
    asks_finish = (binary_part, size, small)

    pub soft_end : {dvcc corrected : ℕ} {mode : CrcMode} {information' : List ℕ} {r : Result ℕ Refusal}
        → corrected ≡ signs_of (bits (take (length information + 21) (word ++ drop {A = ℕ} (length information + 21) (replicate 130 0)))) values
        → Finished (bits (take (length information + 21) (word ++ drop {A = ℕ} (length information + 21) (replicate 130 0)))) corrected dvcc mode information information' r
        → CellsSearched signs_of values dvcc mode information information' r
    soft_end {dvcc} {corrected} {mode} {information'} {r} ec h =
        let e : bits (take (length information + 21) (word ++ drop {A = ℕ} (length information + 21) (replicate 130 0))) ≡ reverse g.word = ap bits (part ∙ g.written) ∙ bits-bytes (reverse g.word) in
        let n : length (take {A = ℕ} (length information + 21) (replicate 130 0)) ≡ length information + 21 = length-take-le {A = ℕ} (length information + 21) (replicate 130 0) (omega arith) in
        let g' : SoftFound values (length information + 21) word = subst (λ (m : ℕ). SoftFound values m word) n g in
        ended e g'
      where
        ended : bits (take (length information + 21) (word ++ drop {A = ℕ} (length information + 21) (replicate 130 0))) ≡ reverse g.word
            → SoftFound values (length information + 21) word → CellsSearched signs_of values dvcc mode information information' r
        ended e g' =
            let same : reverse g.word ≡ reverse g'.word = sym (bits-bytes (reverse g.word)) ∙ ap bits (sym g.written ∙ g'.written) ∙ bits-bytes (reverse g'.word) in
            let q : bits (take (length information + 21) (word ++ drop {A = ℕ} (length information + 21) (replicate 130 0))) ≡ reverse g'.word = e ∙ same in
            record {
              bits = word;
              found = g';
              finished = subst (λ (m : ℕ). Finished (reverse g'.word) m dvcc mode information information' r) (ec ∙ ap (λ (u : List Bool). signs_of u values) q)
                  (subst (λ (u : List Bool). Finished u corrected dvcc mode information information' r) q h);
            }
