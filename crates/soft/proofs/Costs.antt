-- The branch metrics of the butterflies: what a bit costs by the tests on its reliability; the output pairs and their complements by one computed test each. Assumes nothing.
use mathlib.Core.Path.{◌≡◌, refl, ap, ap₂, ◌∙◌}
use mathlib.Core.Bool.{Bool, true, false, cond, not, beq}
use mathlib.Core.List.{List, [], ◌∷◌}
use Prim.Native.Nat.{ℕ, ◌+◌, ◌-◌, ◌*◌, ◌/◌, ◌%◌, ◌<◌}
use native.Mathlib.Omega.{arith}
use lib.Dec.{eqb, eqb→eq}
use lib.ListN.{get_or}
use lib.Ieee.{Float, nan, binary64, add}
use Rattle.bits.specs.Bits.{bit, ◌⊕◌}
use Rattle.bits.proofs.Tested.{below, below_bit, same_bits, same_bits_eq}
use Rattle.coding.specs.Codes.{outputs, tapped, dcch}
use Rattle.coding.specs.Registers.{memory_high, Stepped}
use Rattle.trellis.specs.Numbering.{pred_high, newest_high}
use Rattle.soft.specs.Reliability.{zero_f, magnitude, negative, bit_cost}
use Rattle.soft.specs.Branch.{pair_cost}
use Rattle.soft.specs.Step.{PairCosts, output_of, output_number, Branched, branch_into}
use Rattle.soft.specs.declared.step.Branches.{Branches}

-- ---- `bit_cost`
pub cost_size : (b : Bool) (x v : Float) → not (beq b (negative x)) ≡ true → v ≡ magnitude x → v ≡ bit_cost b x
unfolding bit_cost
cost_size b x v h e = e ∙ go b (negative x) h
  where
    go : (b n : Bool) → not (beq b n) ≡ true → magnitude x ≡ cond (b ⊕ n) (magnitude x) zero_f
    go true true h = cc
    go true false h = refl
    go false true h = refl
    go false false h = cc

pub cost_none : (b : Bool) (x : Float) → not (beq b (negative x)) ≡ false → zero_f ≡ bit_cost b x
unfolding bit_cost
cost_none b x h = go b (negative x) h
  where
    go : (b n : Bool) → not (beq b n) ≡ false → zero_f ≡ cond (b ⊕ n) (magnitude x) zero_f
    go true true h = refl
    go true false h = cc
    go false true h = cc
    go false false h = refl

-- ---- `pair_costs`
pub pair_costs : (x y : Float) {a b c d : Float} → a ≡ bit_cost false x → b ≡ bit_cost true x → c ≡ bit_cost false y → d ≡ bit_cost true y
    → PairCosts x y (add binary64 a c ∷ add binary64 a d ∷ add binary64 b c ∷ add binary64 b d ∷ [])
unfolding pair_cost
pair_costs x y ea eb ec ed false false = ap₂ (add binary64) ea ec
pair_costs x y ea eb ec ed false true = ap₂ (add binary64) ea ed
pair_costs x y ea eb ec ed true false = ap₂ (add binary64) eb ec
pair_costs x y ea eb ec ed true true = ap₂ (add binary64) eb ed

-- ---- `output_pairs`
pub output_number_lem : (n : ℕ) {next : ℕ} {o : List ℕ} → Stepped dcch memory_high (n * 2) false next o → get_or o 0 0 * 2 + get_or o 1 0 ≡ output_number n false
unfolding output_of
output_number_lem n step = ap (λ (l : List ℕ). get_or l 0 0 * 2 + get_or l 1 0) step.sent

-- ---- `branch_metrics`
flip_test : ℕ → Bool
flip_test n = eqb (3 - output_number n false) (output_number n true)

-- flipping the input complements both outputs
flipped : (n : ℕ) → n < 16 → 3 - output_number n false ≡ output_number n true
unfolding flip_test output_of tapped
flipped n h = eqb→eq (3 - output_number n false) (output_number n true) (below flip_test 16 tt n h)

module _ (x y : Float) (costs : List Float) (h : PairCosts x y costs) (n : ℕ) (b : n < 16) (pair : ℕ) (e : pair ≡ output_number n false) where
  pub cost_zero : get_or costs pair nan ≡ pair_cost x y (output_of n false 0 ∷ output_of n false 1 ∷ [])
  cost_zero = ap (λ (i : ℕ). get_or costs i nan) e ∙ h (output_of n false 0) (output_of n false 1)

  pub cost_one : get_or costs (3 - pair) nan ≡ pair_cost x y (output_of n true 0 ∷ output_of n true 1 ∷ [])
  cost_one = ap (λ (i : ℕ). get_or costs (3 - i) nan) e ∙ ap (λ (i : ℕ). get_or costs i nan) (flipped n b) ∙ h (output_of n true 0) (output_of n true 1)

-- ---- the branch metric into a state from each predecessor: flipping the oldest input complements both outputs too
into_test : Bool → ℕ → Bool
into_test b t =
    same_bits (output_of (t % 16) (bit (t / 16) ⊕ b) 0 ∷ output_of (t % 16) (bit (t / 16) ⊕ b) 1 ∷ []) (outputs dcch (newest_high.newest t ∷ memory_high (pred_high t b)))

pub branch_into_lem : {x y : Float} {r : Branches} → Branched x y r → (t : ℕ) (b : Bool) → t < 32
    → branch_into r.zeros r.ones t b ≡ pair_cost x y (outputs dcch (newest_high.newest t ∷ memory_high (pred_high t b)))
unfolding into_test output_of tapped
branch_into_lem {x} {y} {r} h t b l = go (bit (t / 16) ⊕ b) ∙ ap (pair_cost x y) (same_bits_eq _ _ (below_bit into_test 32 tt tt b t l))
  where
    go : (v : Bool) → cond v (get_or r.ones (t % 16) nan) (get_or r.zeros (t % 16) nan) ≡ pair_cost x y (output_of (t % 16) v 0 ∷ output_of (t % 16) v 1 ∷ [])
    go true = h.ones (t % 16) (omega arith)
    go false = h.zeros (t % 16) (omega arith)
