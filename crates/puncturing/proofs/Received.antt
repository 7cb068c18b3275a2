-- What was received of each step, spread over the coded bits. Assumes nothing.
use mathlib.Core.Path.{◌≡◌, refl, ap, ap₂, ◌∙◌}
use mathlib.Core.Bool.{Bool, true, false, cond, not}
use mathlib.Core.List.{List, ◌∷◌}
use Prim.Native.Nat.{ℕ, ◌+◌, ◌*◌, ◌<◌}
use native.Mathlib.Omega.{arith}
use lib.ListN.{get_or, drop}
use Rattle.bits.proofs.Tally.{drop_two}
use Rattle.puncturing.proofs.Gaps.{Observation, observed, unobserved, sent_mask, spread, spread_at, spread_length, rank}
use Rattle.puncturing.proofs.MaskSteps.{silent, pair_at, mask_length, first_kept, second_kept, first_rank, second_rank}

-- what is observed at a place
abbrev pub observed_at : List Bool → Bool → ℕ → Observation
observed_at r true i = unobserved
observed_at r false i = observed (get_or r i false)

heard_by : (r : List Bool) (s : Bool) (j i : ℕ) → get_or sent_mask j false ≡ not s → (s ≡ false → rank sent_mask j ≡ i)
    → get_or (spread sent_mask r) j unobserved ≡ observed_at r s i
heard_by r true j i keeps at = spread_at sent_mask r j ∙ ap (λ (b : Bool). cond b (observed (get_or r (rank sent_mask j) false)) unobserved) keeps
heard_by r false j i keeps at =
    spread_at sent_mask r j ∙ ap₂ (λ (b : Bool) (n : ℕ). cond b (observed (get_or r n false)) unobserved) keeps (at refl)

pub received : (r : List Bool) (k : ℕ) → k < 108 → drop (k * 2) (spread sent_mask r)
    ≡ observed_at r (silent k) (pair_at k) ∷ observed_at r (silent k) (pair_at k + 1) ∷ drop (k * 2 + 2) (spread sent_mask r)
received r k h =
    drop_two (spread sent_mask r) (k * 2) unobserved (omega (arith, spread_length sent_mask r, mask_length))
    ∙ ap₂ (λ (x y : Observation). x ∷ y ∷ drop (k * 2 + 2) (spread sent_mask r))
    (heard_by r (silent k) (k * 2) (pair_at k) (first_kept k h) (first_rank k h))
    (heard_by r (silent k) (k * 2 + 1) (pair_at k + 1) (second_kept k h) (second_rank k h))
