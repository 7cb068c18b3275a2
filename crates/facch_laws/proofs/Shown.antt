-- What the outputs of FACCH's coder show of its bits. The generators have g0 + g2 = D^2 + D^4 and (g0 + g2) (1 + D) + g2 D^2 = D^7: the first and third
-- outputs of five steps in a row show five bits. After them one output of a step shows the next bit, as every generator taps the newest. Assumes nothing.
use mathlib.Core.Path.{◌≡◌, sym, ap, ap₂, subst, ◌∙◌}
use mathlib.Core.Bool.{Bool, false}
use mathlib.Core.List.{List, [], ◌∷◌}
use Prim.Native.Nat.{ℕ, zero, suc, ◌+◌, ◌<◌}
use native.Mathlib.Omega.{arith}
use native.Mathlib.Decide.{dec_lt}
use lib.Dec.{T}
use lib.ListN.{get_or}
use Rattle.bits.specs.Bits.{◌⊕◌}
use Rattle.bits.specs.Numbers.{packed, unpacked}
use Rattle.bits.proofs.Packed.{packed_below, unpacked-packed}
use Rattle.bits.proofs.Tested.{both, both_left, both_right, below, same_bit, same_bit_eq}
use Rattle.coding.specs.Codes.{tapped, facch}
use Rattle.coding.proofs.Unique.{cancel}
use Rattle.facch_laws.proofs.Taps.{sent}

-- ---- first and third outputs
-- the oldest bit that a step taps, from its third output and the first and third of the next two
abbrev oldest : (ℕ → Bool) → Bool
oldest x = sent x 2 0 ⊕ (sent x 0 1 ⊕ (sent x 2 1 ⊕ (sent x 0 2 ⊕ sent x 2 2)))

-- the fourth oldest, from the second oldest and the step's first and third outputs
abbrev fourth : (ℕ → Bool) → Bool
fourth x = x 1 ⊕ (sent x 0 0 ⊕ sent x 2 0)

abbrev hold : (ℕ → Bool) → Bool
hold x = both (same_bit (x 0) (oldest x)) (same_bit (x 3) (fourth x))

-- both, by a test over the words of eight bits
shows : (x : ℕ → Bool) → (x 0 ≡ oldest x) × (x 3 ≡ fourth x)
unfolding tapped unpacked
shows x =
    let v : List Bool = x 0 ∷ x 1 ∷ x 2 ∷ x 3 ∷ x 4 ∷ x 5 ∷ x 6 ∷ x 7 ∷ [] in
    let t : T (hold x) =
    subst (λ (l : List Bool). T (hold (λ i. get_or l i false))) (unpacked-packed v)
    (below (λ k. hold (λ i. get_or (unpacked 8 k) i false)) 256 tt (packed v) (packed_below v)) in
    (same_bit_eq (x 0) (oldest x) (both_left (same_bit (x 0) (oldest x)) _ t), same_bit_eq (x 3) (fourth x) (both_right (same_bit (x 0) (oldest x)) _ t))

-- ---- every generator taps the newest bit
taps_newest : (k : ℕ) → k < 4 → (a b : Bool) (r : List Bool) → tapped (get_or facch k []) (a ∷ r) ≡ tapped (get_or facch k []) (b ∷ r) → a ≡ b
unfolding tapped
taps_newest zero h a b r e = cancel a b _ e
taps_newest (suc zero) h a b r e = cancel a b _ e
taps_newest (suc (suc zero)) h a b r e = cancel a b _ e
taps_newest (suc (suc (suc zero))) h a b r e = cancel a b _ e
taps_newest (suc (suc (suc (suc k)))) h a b r e = absurd (omega arith)

-- ---- two streams of bits
module _ (x y : ℕ → Bool) where
  abbrev pub Agree : ℕ → Type 0
  Agree n = (i : ℕ) → i < n → x i ≡ y i

  abbrev pub SameSent : ℕ → ℕ → Type 0
  SameSent k s = sent x k s ≡ sent y k s

  same_oldest : SameSent 2 0 → SameSent 0 1 → SameSent 2 1 → SameSent 0 2 → SameSent 2 2 → x 0 ≡ y 0
  same_oldest a b c d e = (shows x).0 ∙ ap₂ ◌⊕◌ a (ap₂ ◌⊕◌ b (ap₂ ◌⊕◌ c (ap₂ ◌⊕◌ d e))) ∙ sym (shows y).0

  same_fourth : x 1 ≡ y 1 → SameSent 0 0 → SameSent 2 0 → x 3 ≡ y 3
  same_fourth p a b = (shows x).1 ∙ ap₂ ◌⊕◌ p (ap₂ ◌⊕◌ a b) ∙ sym (shows y).1

  -- an output shows the bit after those that agree
  pub same_newest : (s k : ℕ) → k < 4 → Agree (s + 5) → SameSent k s → x (s + 5) ≡ y (s + 5)
  same_newest s k h a e =
      let older : x (s + 4) ∷ x (s + 3) ∷ x (s + 2) ∷ x (s + 1) ∷ x s ∷ [] ≡ y (s + 4) ∷ y (s + 3) ∷ y (s + 2) ∷ y (s + 1) ∷ y s ∷ [] =
      λ j. a (s + 4) (omega arith) j ∷ a (s + 3) (omega arith) j ∷ a (s + 2) (omega arith) j ∷ a (s + 1) (omega arith) j ∷ a s (omega arith) j ∷ [] in
      taps_newest k h (x (s + 5)) (y (s + 5)) _ (sym (ap (λ (r : List Bool). tapped (get_or facch k []) (x (s + 5) ∷ r)) older) ∙ e)

  -- five bits that agree, and each next bit where all before it agree
  pub grown : Agree 5 → (n : ℕ) → ((s : ℕ) → s < n → Agree (s + 5) → x (s + 5) ≡ y (s + 5)) → Agree (n + 5)
  grown first zero next i h = first i h
  grown first (suc n) next i h = elim (dec_lt i (n + 5)) [
    | yes g ↦ grown first n (λ s b. next s (omega arith)) i g
    | no g ↦
        let e : i ≡ n + 5 = omega arith in
        ap x e ∙ next n (omega arith) (grown first n (λ s b. next s (omega arith))) ∙ sym (ap y e)
  ]

-- the first and third outputs of five steps show five bits
pub same_five : (x y : ℕ → Bool) → ((s : ℕ) → s < 5 → SameSent x y 0 s × SameSent x y 2 s) → Agree x y 5
same_five x y p =
    let o : (s : ℕ) → s < 5 → SameSent x y 0 s = λ s h. (p s h).0 in
    let q : (s : ℕ) → s < 5 → SameSent x y 2 s = λ s h. (p s h).1 in
    let b₀ : x 0 ≡ y 0 = same_oldest x y (q 0 (omega arith)) (o 1 (omega arith)) (q 1 (omega arith)) (o 2 (omega arith)) (q 2 (omega arith)) in
    let b₁ : x 1 ≡ y 1 =
    same_oldest (λ i. x (suc i)) (λ i. y (suc i)) (q 1 (omega arith)) (o 2 (omega arith)) (q 2 (omega arith)) (o 3 (omega arith)) (q 3 (omega arith)) in
    let b₂ : x 2 ≡ y 2 =
    same_oldest (λ i. x (suc (suc i))) (λ i. y (suc (suc i))) (q 2 (omega arith)) (o 3 (omega arith)) (q 3 (omega arith)) (o 4 (omega arith)) (q 4 (omega arith)) in
    let b₃ : x 3 ≡ y 3 = same_fourth x y b₁ (o 0 (omega arith)) (q 0 (omega arith)) in
    let b₄ : x 4 ≡ y 4 = same_fourth (λ i. x (suc i)) (λ i. y (suc i)) b₂ (o 1 (omega arith)) (q 1 (omega arith)) in
    each b₀ b₁ b₂ b₃ b₄
  where
    each : x 0 ≡ y 0 → x 1 ≡ y 1 → x 2 ≡ y 2 → x 3 ≡ y 3 → x 4 ≡ y 4 → Agree x y 5
    each b₀ b₁ b₂ b₃ b₄ zero h = b₀
    each b₀ b₁ b₂ b₃ b₄ (suc zero) h = b₁
    each b₀ b₁ b₂ b₃ b₄ (suc (suc zero)) h = b₂
    each b₀ b₁ b₂ b₃ b₄ (suc (suc (suc zero))) h = b₃
    each b₀ b₁ b₂ b₃ b₄ (suc (suc (suc (suc zero)))) h = b₄
    each b₀ b₁ b₂ b₃ b₄ (suc (suc (suc (suc (suc i))))) h = absurd (omega arith)
