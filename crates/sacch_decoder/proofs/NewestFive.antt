-- The newest five of 66 bits, as bytes. Assumes nothing.
use mathlib.Core.Path.{◌≡◌, sym, ap, subst, fun_ext, ◌∙◌}
use mathlib.Core.Bool.{Bool, false}
use mathlib.Core.List.{List, [], ◌∷◌, ◌++◌, reverse, reverse-append}
use Prim.Native.Nat.{ℕ, ◌+◌, ◌^◌, ◌<◌}
use native.Mathlib.Omega.{arith}
use lib.ListN.{length, get_or, take, drop, take-append-drop, length-drop, length-map, get_or-map}
use lib.Seq.{get_or-drop}
use Rattle.bits.specs.Bits.{bit, bits}
use Rattle.bits.specs.Numbers.{packed}
use Rattle.bits.specs.Places.{listed}
use Rattle.bits.proofs.Listed.{is_listed}
use Rattle.bits.proofs.Packed.{packed_below}

-- the last five by their places, the last first
abbrev last_five : {A : Type 0} → (ℕ → A) → List A
last_five at = at 65 ∷ at 64 ∷ at 63 ∷ at 62 ∷ at 61 ∷ []

last_five_lem : (w : List Bool) → length w ≡ 66 → take 5 (reverse w) ≡ last_five (λ k. get_or w k false)
unfolding listed
last_five_lem w size =
    ap (λ (r : List Bool). take 5 (reverse r)) (sym (take-append-drop 61 w))
    ∙ ap (take 5) (reverse-append (take 61 w) (drop 61 w))
    ∙ ap (λ (r : List Bool). take 5 (reverse r ++ reverse (take 61 w)))
    (is_listed 5 (λ i. get_or w (61 + i) false) false (drop 61 w) (omega (arith, length-drop 61 w)) (λ i h. get_or-drop 61 w i false))

-- their number is a byte
pub five_below : (w : List Bool) {number : ℕ} → number ≡ packed w → length w ≡ 5 → number < 256
five_below w e five = omega (arith, e, subst (λ (n : ℕ). packed w < 2 ^ n) five (packed_below w))

pub five_packed : (word : List ℕ) → length word ≡ 66 → {number : ℕ} → number ≡ packed (bits (last_five (λ k. get_or word k 0)))
    → number ≡ packed (take 5 (reverse (bits word)))
five_packed word size e =
    let same : last_five (λ k. get_or (bits word) k false) ≡ last_five (λ k. bit (get_or word k 0)) = ap last_five (fun_ext (λ k. get_or-map bit word k 0)) in
    e ∙ ap packed (sym (last_five_lem (bits word) (length-map word bit ∙ size) ∙ same))
