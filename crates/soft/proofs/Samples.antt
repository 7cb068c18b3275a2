-- The definitions at a few values, by computation. Assumes nothing.
use mathlib.Core.Path.{◌≡◌, refl}
use mathlib.Core.Bool.{true, false}
use mathlib.Core.List.{List, [], ◌∷◌}
use Prim.Native.Nat.{ℕ, zero, suc, ◌^◌, ◌≤◌}
use native.Mathlib.Omega.{arith}
use lib.Dec.{lit≤}
use lib.IntN.{pos, negsuc}
use lib.Ieee.{Float, fin, round, size, units, odd, span, climb, sum, add, lt}
use lib.Count.{count_trailing_zeros}
use Rattle.bits.specs.Bits.{tally}
use Rattle.coding.specs.Codes.{tapped, coded}
use Rattle.trellis.specs.Trellis.{state_metric, survivor, word}
use Rattle.soft.specs.Reliability.{magnitude, negative, sign_count, bit_cost, whole_cost, WholeWithin, AllWhole}
use Rattle.soft.specs.Branch.{pair_cost}
use Rattle.soft.specs.Soft.{soft_word, total_cost}

abbrev one : Float
one = fin false 1 (pos 0)

abbrev minus : Float
minus = fin true 1 (pos 0)

-- -3 is a whole number, and a half is none
pub whole : WholeWithin (2 ^ 40) (fin true 3 (pos 0))
whole = record { whole = (refl, refl); small = lit≤ tt }

pub half : WholeWithin (2 ^ 40) (fin false 1 (negsuc 0)) → ⊥
half w = let e : ◌≡◌ {A = ℕ} 1 0 = w.whole.1 in omega arith

-- a one against -0.0 counts: a zero of either sign reads as a zero
pub counted : sign_count (true ∷ true ∷ false ∷ []) (fin true 0 (pos 0) ∷ minus ∷ one ∷ []) ≡ 1
unfolding tally negative lt
counted = refl

-- the coded bits of a one and five zeros, the first of them received wrongly
abbrev received : List Float
received = one ∷ minus ∷ minus ∷ one ∷ one ∷ minus ∷ minus ∷ minus ∷ one ∷ minus ∷ minus ∷ minus ∷ []

pub corrected : total_cost received (false ∷ false ∷ false ∷ false ∷ false ∷ true ∷ []) ≡ 1
unfolding total_cost tally coded tapped whole_cost negative lt
corrected = refl

pub found : soft_word received 6 ≡ false ∷ false ∷ false ∷ false ∷ false ∷ true ∷ []
unfolding soft_word word survivor state_metric pair_cost bit_cost magnitude negative tapped add sum round units odd size span climb count_trailing_zeros lt
found = refl

-- Here the order of the sums decides, since 2 ^ 53 + 1 rounds: each pair is summed before it meets a path metric. Bit by bit the word would be six zeros.
abbrev rounding : List Float
rounding = one ∷ minus ∷ one ∷ minus ∷ fin true 1 (pos 53) ∷ minus ∷ minus ∷ one ∷ one ∷ minus ∷ minus ∷ minus ∷ []

pub pair_first : soft_word rounding 6 ≡ false ∷ false ∷ false ∷ false ∷ false ∷ true ∷ []
unfolding soft_word word survivor state_metric pair_cost bit_cost magnitude negative tapped add sum round units odd size span climb count_trailing_zeros lt
pair_first = refl

-- whole numbers up to 2 ^ 40, of either sign, and no further
pub whole_at_bound : AllWhole (fin false 1 (pos 40) ∷ fin true 1 (pos 40) ∷ [])
whole_at_bound zero h = record { whole = (refl, refl); small = lit≤ tt }
whole_at_bound (suc zero) h = record { whole = (refl, refl); small = lit≤ tt }
whole_at_bound (suc (suc i)) h = absurd (omega arith)

pub whole_past_bound : AllWhole (fin false 1099511627777 (pos 0) ∷ []) → ⊥
whole_past_bound w = let h : 1099511627777 ≤ 2 ^ 40 = (w 0 (omega arith)).small in omega arith
