-- One step of a register against its code: each law of the 32 states, both inputs and the 64 generators of six digits is one computed test, and the
-- register's six bits meet no other digit of a generator. Assumes nothing.
use mathlib.Core.Path.{◌≡◌, refl, sym, ap, ap₂, subst, ◌∙◌}
use mathlib.Core.Bool.{Bool, true, false}
use mathlib.Core.List.{List, [], ◌∷◌, map}
use Prim.Native.Nat.{ℕ, ◌+◌, ◌*◌, ◌/◌, ◌%◌, ◌^◌, ◌<◌, min}
use native.Mathlib.Omega.{arith}
use native.Mathlib.Decide.{dec_lt}
use lib.Bits.{bit_and, bit_or}
use lib.Count.{ones}
use lib.Dec.{T, ltb, ltb→lt}
use lib.ListN.{take}
use Rattle.std.specs.Int.{bit_at}
use Rattle.std.proofs.lemmas.Nat.Bits.{bit_at_and, bit_at_above, bit_at_cat_low, same_from_bits}
use Rattle.bits.specs.Bits.{bit, byte, bytes}
use Rattle.bits.proofs.Binary.{byte-bit_any}
use Rattle.bits.proofs.Tested.{both, both_left, both_right, every, below, below_bit, same_bit, same_bit_eq, same_bits, same_bits_eq}
use Rattle.coding.specs.Codes.{tapped, outputs, from_highest, from_lowest}
use Rattle.coding.specs.Registers.{memory_high, memory_low, Stepped}

-- ---- six digits
-- a number of six bits meets the lowest six of another
and_six : (r g : ℕ) → r < 64 → bit_and r g ≡ bit_and r (g % 64)
and_six r g h = same_from_bits _ _ (λ i. bit_at_and r g i ∙ go i (dec_lt i 6) ∙ sym (bit_at_and r (g % 64) i))
  where
    go : (i : ℕ) → Dec (i < 6) → min (bit_at r i) (bit_at g i) ≡ min (bit_at r i) (bit_at (g % 64) i)
    go i (yes b) =
        let e : g ≡ g / 64 * 2 ^ 6 + g % 64 = omega arith in
        ap (min (bit_at r i)) (ap (λ (n : ℕ). bit_at n i) e ∙ bit_at_cat_low (g / 64) 6 (g % 64) i b)
    go i (no b) =
        let z : bit_at r i ≡ 0 = bit_at_above r 6 i h (omega arith) in
        omega arith

highest_six : (g : ℕ) → from_highest (g % 64) ≡ from_highest g
highest_six g =
    let a : g % 64 / 32 % 2 ≡ g / 32 % 2 = omega arith in
    let b : g % 64 / 16 % 2 ≡ g / 16 % 2 = omega arith in
    let c : g % 64 / 8 % 2 ≡ g / 8 % 2 = omega arith in
    let d : g % 64 / 4 % 2 ≡ g / 4 % 2 = omega arith in
    let e : g % 64 / 2 % 2 ≡ g / 2 % 2 = omega arith in
    let f : g % 64 % 2 ≡ g % 2 = omega arith in
    rw (a, b, c, d, e, f)

lowest_six : (g : ℕ) → from_lowest (g % 64) ≡ from_lowest g
lowest_six g =
    let a : g % 64 / 32 % 2 ≡ g / 32 % 2 = omega arith in
    let b : g % 64 / 16 % 2 ≡ g / 16 % 2 = omega arith in
    let c : g % 64 / 8 % 2 ≡ g / 8 % 2 = omega arith in
    let d : g % 64 / 4 % 2 ≡ g / 4 % 2 = omega arith in
    let e : g % 64 / 2 % 2 ≡ g / 2 % 2 = omega arith in
    let f : g % 64 % 2 ≡ g % 2 = omega arith in
    rw (a, b, c, d, e, f)

-- ---- a register: what a number says as a generator, what a state holds, the register that a state and an input make, and the state after it
abbrev pub parities : List ℕ → ℕ → List ℕ
parities taps register = map (λ (t : ℕ). ones (bit_and register t) % 2) taps

module _ (from : ℕ → List Bool) (memory : ℕ → List Bool) (register : ℕ → ℕ → ℕ) (next : ℕ → ℕ) where
  abbrev sends : Bool → ℕ → ℕ → Bool
  sends b s g = same_bit (bit (ones (bit_and (register s (byte b)) g))) (tapped (from g) (b ∷ memory s))

  abbrev fits : Bool → ℕ → Bool
  fits b s = both (ltb (register s (byte b)) 64) (ltb (next (register s (byte b))) 32)

  abbrev keeps : Bool → ℕ → Bool
  keeps b s = both (fits b s) (same_bits (memory (next (register s (byte b)))) (take 5 (b ∷ memory s)))

  abbrev right : Bool → ℕ → Bool
  right b s = both (every (sends b s) 64) (keeps b s)

  module _ (six : (g : ℕ) → from (g % 64) ≡ from g) where
    parity_tapped : (b : Bool) (s g : ℕ) → T (right b s) → ones (bit_and (register s (byte b)) g) % 2 ≡ byte (tapped (from g) (b ∷ memory s))
    parity_tapped b s g t =
        let k : T (fits b s) = both_left (fits b s) _ (both_right (every (sends b s) 64) (keeps b s) t) in
        let r : register s (byte b) < 64 = ltb→lt _ 64 (both_left (ltb (register s (byte b)) 64) _ k) in
        let e : bit (ones (bit_and (register s (byte b)) (g % 64))) ≡ tapped (from (g % 64)) (b ∷ memory s) =
        same_bit_eq _ _ (below (sends b s) 64 (both_left (every (sends b s) 64) (keeps b s) t) (g % 64) (omega arith)) in
        sym (byte-bit_any (ones (bit_and (register s (byte b)) g)))
        ∙ ap byte (ap (λ (n : ℕ). bit (ones n)) (and_six _ g r) ∙ e ∙ ap (λ (l : List Bool). tapped l (b ∷ memory s)) (six g))

    parities_tapped : (b : Bool) (s : ℕ) (gs : List ℕ) → T (right b s) → parities gs (register s (byte b)) ≡ bytes (outputs (map from gs) (b ∷ memory s))
    parities_tapped b s [] t = refl
    parities_tapped b s (g ∷ gs) t = ap₂ (λ (x : ℕ) (l : List ℕ). x ∷ l) (parity_tapped b s g t) (parities_tapped b s gs t)

    pub stepped : T (every (right false) 32) → T (every (right true) 32) → (gs : List ℕ) {s : ℕ} (i : ℕ) {o : List ℕ} → s < 32
        → o ≡ parities gs (register s (i % 2)) → Stepped (map from gs) memory s (bit i) (next (register s (i % 2))) o
    stepped p q gs {s} i {o} hs e =
        let b : Bool = bit i in
        let t : T (right b s) = below_bit right 32 p q b s hs in
        let k : T (keeps b s) = both_right (every (sends b s) 64) (keeps b s) t in
        let n : ℕ = next (register s (byte b)) in
        let w : Stepped (map from gs) memory s b n (parities gs (register s (byte b))) =
        record {
          sent = parities_tapped b s gs t;
          below = ltb→lt n 32 (both_right (ltb (register s (byte b)) 64) (ltb n 32) (both_left (fits b s) _ k));
          holds = same_bits_eq _ _ (both_right (fits b s) _ k);
        } in
        subst (λ (l : List ℕ). Stepped (map from gs) memory s b (next (register s (i % 2))) l) (sym e)
        (subst (λ (j : ℕ). Stepped (map from gs) memory s b (next (register s j)) (parities gs (register s j))) (byte-bit_any i) w)

module _ (gs : List ℕ) {s : ℕ} (i : ℕ) {o : List ℕ} (hs : s < 32) where
  -- IS-136 and IS-54-B: the input comes in above the state
  pub high_step : o ≡ parities gs (bit_or s (i % 2 * 32 % 256)) → Stepped (map from_highest gs) memory_high s (bit i) (bit_or s (i % 2 * 32 % 256) / 2) o
  unfolding tapped ones
  high_step e = stepped from_highest memory_high (λ s i. bit_or s (i * 32 % 256)) (λ r. r / 2) highest_six tt tt gs i hs e

  -- TIA/EIA-136-410: it comes in below
  pub low_step : o ≡ parities gs (bit_or (s * 2 % 256) (i % 2)) → Stepped (map from_lowest gs) memory_low s (bit i) (bit_and (bit_or (s * 2 % 256) (i % 2)) 31) o
  unfolding tapped ones
  low_step e = stepped from_lowest memory_low (λ s i. bit_or (s * 2 % 256) i) (λ r. bit_and r 31) lowest_six tt tt gs i hs e
