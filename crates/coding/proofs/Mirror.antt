-- ACELP's code is DCCH's with the states numbered the other way round: each law of the mirror is a test over the 32 states. Assumes nothing.
use mathlib.Core.Path.{◌≡◌, refl, sym, ap, ◌∙◌}
use mathlib.Core.Bool.{Bool}
use mathlib.Core.List.{List, ◌∷◌}
use Prim.Native.Nat.{ℕ, ◌<◌}
use lib.Dec.{eqb, eqb→eq, ltb, ltb→lt}
use lib.ListN.{take}
use Rattle.bits.specs.Bits.{bytes}
use Rattle.bits.proofs.Tested.{below, same_bits, same_bits_eq}
use Rattle.coding.specs.Codes.{outputs, acelp, dcch}
use Rattle.coding.specs.Registers.{memory_high, memory_low, mirror, Stepped}

pub same_code : acelp ≡ dcch
same_code = refl

pub mirror_memory : (s : ℕ) → s < 32 → memory_low s ≡ memory_high (mirror s)
mirror_memory s h = same_bits_eq (memory_low s) (memory_high (mirror s)) (below (λ s. same_bits (memory_low s) (memory_high (mirror s))) 32 tt s h)

pub mirror-mirror : (s : ℕ) → s < 32 → mirror (mirror s) ≡ s
mirror-mirror s h = eqb→eq (mirror (mirror s)) s (below (λ s. eqb (mirror (mirror s)) s) 32 tt s h)

pub mirror_below : (s : ℕ) → s < 32 → mirror s < 32
mirror_below s h = ltb→lt (mirror s) 32 (below (λ s. ltb (mirror s) 32) 32 tt s h)

-- a step between states that hold the same inputs under another numbering
pub renumbered : {code : List (List Bool)} {memory memory' : ℕ → List Bool} {s s' n n' : ℕ} {b : Bool} {out : List ℕ}
    → memory s ≡ memory' s' → memory n ≡ memory' n' → n' < 32 → Stepped code memory s b n out → Stepped code memory' s' b n' out
renumbered {code} {b} es en h step =
    record {
      sent = step.sent ∙ ap (λ (m : List Bool). bytes (outputs code (b ∷ m))) es;
      below = h;
      holds = sym en ∙ step.holds ∙ ap (λ (m : List Bool). take 5 (b ∷ m)) es;
    }

-- a step of ACELP from s is a step of DCCH from the mirror of s
module _ {s n : ℕ} {b : Bool} {out : List ℕ} (hs : s < 32) where
  pub mirrored : Stepped acelp memory_low s b n out → Stepped dcch memory_high (mirror s) b (mirror n) out
  mirrored step = renumbered (mirror_memory s hs) (mirror_memory n step.below) (mirror_below n step.below) step

  pub mirrored_back : n < 32 → Stepped dcch memory_high (mirror s) b (mirror n) out → Stepped acelp memory_low s b n out
  mirrored_back hn step = renumbered (sym (mirror_memory s hs)) (sym (mirror_memory n hn)) hn step
