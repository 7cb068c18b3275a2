-- The row of six inputs has twelve bits, and the memory after them holds the newest five. Assumes nothing.
use mathlib.Core.Path.{◌≡◌, refl, sym, ◌∙◌, ap, subst}
use mathlib.Core.Bool.{Bool}
use mathlib.Core.List.{List, ◌∷◌, [], ◌++◌, reverse}
use Prim.Native.Nat.{ℕ, ◌*◌, ◌/◌, ◌^◌, ◌<◌}
use native.Mathlib.Nat.{div-one}
use lib.ListN.{length, take, length-map}
use Rattle.bits.specs.Bits.{bit, bits, bytes}
use Rattle.bits.specs.Numbers.{packed, unpacked}
use Rattle.bits.proofs.Binary.{bits-bytes}
use Rattle.bits.proofs.Packed.{packed_below, packed-unpacked_below, unpacked-packed, unpacked-length}
use Rattle.coding.specs.Codes.{coded, dcch}
use Rattle.coding.specs.Registers.{memory_high}
use Rattle.coding.specs.Runs.{Encoded}
use Rattle.coding.proofs.Coded.{coded-length}
use Rattle.sacch_encoder.specs.Words.{coded_row, memory_after}

-- the coded bits of six inputs are twelve
pub row_length : (before : List Bool) (six : ℕ) → length (coded dcch before (unpacked 6 six)) ≡ 12
row_length before six = coded-length dcch before (unpacked 6 six) ∙ ap (λ (n : ℕ). n * 2) (unpacked-length 6 six)

pub row_below : (memory six : ℕ) → coded_row memory six < 4096
unfolding coded_row
row_below memory six =
    subst (λ (n : ℕ). coded_row memory six < 2 ^ n) (row_length (memory_high memory) six) (packed_below (coded dcch (memory_high memory) (unpacked 6 six)))

-- ---- the memory
-- a memory holds its five bits, the newest input highest
memory_bits : (s : ℕ) → memory_high s ≡ unpacked 5 s
unfolding unpacked
memory_bits s = ap (λ (n : ℕ). bit (s / 16) ∷ bit (s / 8) ∷ bit (s / 4) ∷ bit (s / 2) ∷ bit n ∷ []) (sym (div-one s))

five : (memory six : ℕ) → length (take 5 (reverse (unpacked 6 six) ++ memory_high memory)) ≡ 5
unfolding unpacked
five memory six = refl

pub memory_below : (memory six : ℕ) → memory_after memory six < 32
unfolding memory_after
memory_below memory six =
    subst (λ (n : ℕ). memory_after memory six < 2 ^ n) (five memory six) (packed_below (take 5 (reverse (unpacked 6 six) ++ memory_high memory)))

pub memory_holds : (memory six : ℕ) → memory_high (memory_after memory six) ≡ take 5 (reverse (unpacked 6 six) ++ memory_high memory)
unfolding memory_after
memory_holds memory six =
    let w : List Bool = take 5 (reverse (unpacked 6 six) ++ memory_high memory) in
    memory_bits (packed w) ∙ ap (λ (n : ℕ). unpacked n (packed w)) (sym (five memory six)) ∙ unpacked-packed w

-- a memory below 32 is told by what it holds
pub memory_told : (next memory six : ℕ) → next < 32 → memory_high next ≡ take 5 (reverse (unpacked 6 six) ++ memory_high memory) → next ≡ memory_after memory six
unfolding memory_after
memory_told next memory six h e = sym (packed-unpacked_below 5 next h) ∙ ap packed (sym (memory_bits next) ∙ e)

-- ---- the coder's run over six bits as bytes gives both
module _ {memory next : ℕ} (six : List ℕ) {out : List ℕ} (size : length six ≡ 6) (run : Encoded memory six out next) where
  inputs_again : unpacked 6 (packed (bits six)) ≡ bits six
  inputs_again = ap (λ (n : ℕ). unpacked n (packed (bits six))) (sym (length-map six bit ∙ size)) ∙ unpacked-packed (bits six)

  pub row_coded : packed (bits out) ≡ coded_row memory (packed (bits six))
  unfolding coded_row
  row_coded =
      ap (λ (l : List ℕ). packed (bits l)) run.bits ∙ ap packed (bits-bytes (coded dcch (memory_high memory) (bits six)))
      ∙ ap (λ (u : List Bool). packed (coded dcch (memory_high memory) u)) (sym inputs_again)

  pub memory_coded : next ≡ memory_after memory (packed (bits six))
  memory_coded =
      memory_told next memory (packed (bits six)) run.below
      (run.holds ∙ ap (λ (u : List Bool). take 5 (reverse u ++ memory_high memory)) (sym inputs_again))

-- ---- six bits of a number as bytes
module _ (six : ℕ) {inputs : List ℕ} (written : inputs ≡ bytes (unpacked 6 six)) where
  pub inputs_packed : six < 64 → packed (bits inputs) ≡ six
  inputs_packed h = ap (λ (l : List ℕ). packed (bits l)) written ∙ ap packed (bits-bytes (unpacked 6 six)) ∙ packed-unpacked_below 6 six h
