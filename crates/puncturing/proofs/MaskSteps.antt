-- The mask by steps: a step's two places are both kept or both not, and where. One test over the 108 steps. Assumes nothing.
use mathlib.Core.Path.{◌≡◌, refl, sym}
use mathlib.Core.Bool.{Bool, true, false, not, false≢true}
use mathlib.Core.List.{List}
use Prim.Native.Nat.{ℕ, ◌+◌, ◌-◌, ◌*◌, ◌/◌, ◌%◌, ◌<◌}
use lib.Dec.{T, eqb, eqb→eq}
use lib.ListN.{length, get_or}
use Rattle.bits.proofs.Tested.{both, both_left, both_right, below, same_bit, same_bit_eq}
use Rattle.puncturing.proofs.Gaps.{sent_mask, rank}

-- whether a step sends nothing, and the place of its pair
abbrev pub silent : ℕ → Bool
silent k = eqb (k % 27) 26

abbrev pub pair_at : ℕ → ℕ
pair_at k = (k - k / 27) * 2

-- the place j of a mask is the i-th that is sent; or is silent
unfoldable masked : Bool → List Bool → ℕ → ℕ → Bool
masked true mask j i = same_bit (get_or mask j false) false
masked false mask j i = both (same_bit (get_or mask j false) true) (eqb (rank mask j) i)

unfoldable by_steps : ℕ → Bool
by_steps k = both (masked (silent k) sent_mask (k * 2) (pair_at k)) (masked (silent k) sent_mask (k * 2 + 1) (pair_at k + 1))

steps_masked : (k : ℕ) → k < 108 → T (by_steps k)
unfolding by_steps masked sent_mask rank
steps_masked k h = below by_steps 108 tt k h

-- what the test says of a place
kept_at : (mask : List Bool) (s : Bool) (j i : ℕ) → T (masked s mask j i) → get_or mask j false ≡ not s
unfolding masked
kept_at mask true j i t = same_bit_eq (get_or mask j false) false t
kept_at mask false j i t = same_bit_eq (get_or mask j false) true (both_left (same_bit (get_or mask j false) true) _ t)

rank_at : (mask : List Bool) (s : Bool) (j i : ℕ) → T (masked s mask j i) → s ≡ false → rank mask j ≡ i
unfolding masked
rank_at mask true j i t e = absurd (false≢true (sym e))
rank_at mask false j i t e = eqb→eq (rank mask j) i (both_right (same_bit (get_or mask j false) true) _ t)

pub mask_length : length sent_mask ≡ 216
unfolding sent_mask
mask_length = refl

pub mask_rank : rank sent_mask (length sent_mask) ≡ 208
unfolding sent_mask rank
mask_rank = refl

module _ (k : ℕ) (h : k < 108) where
  one : T (masked (silent k) sent_mask (k * 2) (pair_at k))
  unfolding by_steps
  one = both_left (masked (silent k) sent_mask (k * 2) (pair_at k)) _ (steps_masked k h)

  two : T (masked (silent k) sent_mask (k * 2 + 1) (pair_at k + 1))
  unfolding by_steps
  two = both_right (masked (silent k) sent_mask (k * 2) (pair_at k)) _ (steps_masked k h)

  pub first_kept : get_or sent_mask (k * 2) false ≡ not (silent k)
  first_kept = kept_at sent_mask (silent k) (k * 2) (pair_at k) one

  pub second_kept : get_or sent_mask (k * 2 + 1) false ≡ not (silent k)
  second_kept = kept_at sent_mask (silent k) (k * 2 + 1) (pair_at k + 1) two

  pub first_rank : silent k ≡ false → rank sent_mask (k * 2) ≡ pair_at k
  first_rank = rank_at sent_mask (silent k) (k * 2) (pair_at k) one

  pub second_rank : silent k ≡ false → rank sent_mask (k * 2 + 1) ≡ pair_at k + 1
  second_rank = rank_at sent_mask (silent k) (k * 2 + 1) (pair_at k + 1) two
