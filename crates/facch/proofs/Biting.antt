-- The coded bits of a word, in two runs from the memory of its first five bits. Assumes nothing.
use mathlib.Core.Path.{◌≡◌, refl, sym, ap, ap₂, subst, ◌∙◌}
use mathlib.Core.Bool.{Bool, true, false}
use mathlib.Core.List.{List, [], ◌∷◌, ◌++◌, reverse}
use Prim.Native.Nat.{ℕ, ◌*◌, ◌%◌, ◌≤◌, ◌<◌}
use native.Mathlib.Omega.{arith}
use lib.Bits.{bit_or}
use lib.Dec.{T, ltb, ltb→lt}
use Rattle.std.specs.List.{fold}
use lib.ListN.{length, take, drop, length-drop}
use lib.Seq.{take_all}
use Rattle.bits.specs.Bits.{bit, bits, bytes, byte}
use Rattle.bits.proofs.Binary.{byte-bit_any, bits-take, bits-drop}
use Rattle.bits.proofs.Tested.{both, both_left, both_right, same_bits, same_bits_eq}
use Rattle.coding.specs.Codes.{coded, facch}
use Rattle.coding.specs.Laws.{facch_laws}
use Rattle.coding.specs.Registers.{memory_high}
use Rattle.coding.specs.Runs.{Ran}
use Rattle.coding.proofs.Coded.{ran_append}
use Rattle.facch.specs.Words.{tail_biting}

-- ---- the start memory, by one test over its five bits
abbrev above : ℕ → ℕ → ℕ
above memory bit = bit_or (memory * 2 % 256) bit

abbrev memory_of : ℕ → ℕ → ℕ → ℕ → ℕ → ℕ
memory_of a b c d e = above (above (above (above (above 0 e) d) c) b) a

abbrev right : Bool → Bool → Bool → Bool → Bool → Bool
right a b c d e =
    let m : ℕ = memory_of (byte a) (byte b) (byte c) (byte d) (byte e) in
    both (ltb m 32) (same_bits (memory_high m) (e ∷ d ∷ c ∷ b ∷ a ∷ []))

abbrev each_bit : (Bool → Bool) → Bool
each_bit f = both (f false) (f true)

at_bit : (f : Bool → Bool) → T (each_bit f) → (b : Bool) → T (f b)
at_bit f t false = both_left (f false) (f true) t
at_bit f t true = both_right (f false) (f true) t

holds : (a b c d e : Bool) → T (right a b c d e)
holds a b c d e =
    at_bit (right a b c d)
    (at_bit (λ d. each_bit (λ e. right a b c d e))
    (at_bit (λ c. each_bit (λ d. each_bit (λ e. right a b c d e)))
    (at_bit (λ b. each_bit (λ c. each_bit (λ d. each_bit (λ e. right a b c d e))))
    (at_bit (λ a. each_bit (λ b. each_bit (λ c. each_bit (λ d. each_bit (λ e. right a b c d e))))) tt a) b) c) d) e

started : (a b c d e : Bool) → (memory_of (byte a) (byte b) (byte c) (byte d) (byte e) < 32)
    × (memory_high (memory_of (byte a) (byte b) (byte c) (byte d) (byte e)) ≡ e ∷ d ∷ c ∷ b ∷ a ∷ [])
started a b c d e =
    let m : ℕ = memory_of (byte a) (byte b) (byte c) (byte d) (byte e) in
    let t : T (right a b c d e) = holds a b c d e in (
      ltb→lt m 32 (both_left (ltb m 32) (same_bits (memory_high m) (e ∷ d ∷ c ∷ b ∷ a ∷ [])) t),
      same_bits_eq (memory_high m) (e ∷ d ∷ c ∷ b ∷ a ∷ []) (both_right (ltb m 32) (same_bits (memory_high m) (e ∷ d ∷ c ∷ b ∷ a ∷ [])) t),
    )

pub starts : (word : List ℕ) → 5 ≤ length word → {memory : ℕ} → memory ≡ fold (λ (memory bit : ℕ). above memory (bit % 2)) 0 (reverse (take 5 word))
    → (memory < 32) × (memory_high memory ≡ reverse (take 5 (bits word)))
starts (a ∷ b ∷ c ∷ d ∷ e ∷ rest) h {memory} told =
    let same : memory_of (byte (bit a)) (byte (bit b)) (byte (bit c)) (byte (bit d)) (byte (bit e)) ≡ memory_of (a % 2) (b % 2) (c % 2) (d % 2) (e % 2) =
    rw (byte-bit_any a, byte-bit_any b, byte-bit_any c, byte-bit_any d, byte-bit_any e) refl in
    let s = started (bit a) (bit b) (bit c) (bit d) (bit e) in
    (subst (λ (m : ℕ). m < 32) (same ∙ sym told) s.0, subst (λ (m : ℕ). memory_high m ≡ bit e ∷ bit d ∷ bit c ∷ bit b ∷ bit a ∷ []) (same ∙ sym told) s.1)
starts [] h told = absurd (omega arith)
starts (a ∷ []) h told = absurd (omega arith)
starts (a ∷ b ∷ []) h told = absurd (omega arith)
starts (a ∷ b ∷ c ∷ []) h told = absurd (omega arith)
starts (a ∷ b ∷ c ∷ d ∷ []) h told = absurd (omega arith)

-- ---- `encode_word`: bits 5 to 64 into the first 240 places, bits 0 to 4 into the rest
module _ (word : List ℕ) (size : length word ≡ 65) where
  rest_is : take 60 (drop 5 word) ≡ drop 5 word
  rest_is = take_all 60 (drop 5 word) (omega (arith, length-drop 5 word))

  pub bitten : {start memory end : ℕ} {out out' : List ℕ} → memory_high start ≡ reverse (take 5 (bits word))
      → Ran facch memory_high start (bits (take 60 (drop 5 word))) memory out → Ran facch memory_high memory (bits (take 5 word)) end out'
      → out ++ out' ≡ bytes (tail_biting (bits word))
  unfolding tail_biting
  bitten es a b =
      let inputs : bits (take 60 (drop 5 word)) ++ bits (take 5 word) ≡ drop 5 (bits word) ++ take 5 (bits word) =
      ap₂ (λ (u w : List Bool). u ++ w) (ap bits rest_is ∙ bits-drop 5 word) (bits-take 5 word) in
      (ran_append facch_laws.six a b).bits ∙ ap₂ (λ (m u : List Bool). bytes (coded facch m u)) es inputs
