-- The least weight over the starting memories does not depend on how they are numbered, and is at most the number of coded bits. Assumes nothing.
use mathlib.Core.Path.{◌≡◌, sym, ap, ◌∙◌}
use mathlib.Core.Bool.{Bool}
use mathlib.Core.List.{List, reverse}
use Prim.Native.Nat.{ℕ, ◌*◌, ◌<◌, ◌≤◌}
use native.Mathlib.Omega.{arith}
use lib.ListN.{length, length-reverse}
use Rattle.bits.proofs.Tally.{disagreements_le}
use Rattle.coding.specs.Codes.{coded, dcch}
use Rattle.coding.specs.Registers.{memory_high, memory_low, mirror}
use Rattle.coding.proofs.Coded.{coded-length}
use Rattle.coding.proofs.Mirror.{mirror_memory, mirror-mirror, mirror_below}
use Rattle.trellis.specs.Numbering.{newest_low}
use Rattle.trellis.specs.Words.{word_metric, free_metric}
use Rattle.trellis.proofs.FreeStart.{least_le, least_same}
use Rattle.viterbi.specs.Hard.{weight_from, free_weight}

module _ (branch : ℕ → ℕ → Bool → ℕ) (received : List Bool) (n : ℕ)
    (metric_weight : (s : ℕ) (u : List Bool) → s < 32 → length u ≤ n → word_metric newest_low branch s u ≡ weight_from (memory_low s) received u) where
  pub free_weight_lem : (u : List Bool) → length u ≤ n → free_metric newest_low branch u ≡ free_weight received u
  unfolding free_metric free_weight
  free_weight_lem u l =
      least_same 31 (λ s. word_metric newest_low branch s u) (λ s. weight_from (memory_high s) received u)
      (λ s h. (mirror s, below s h, sym (high s (omega arith))))
      (λ s h. (mirror s, below s h, high (mirror s) (mirror_below s (omega arith)) ∙ ap (λ (t : ℕ). weight_from (memory_high t) received u) (mirror-mirror s (omega arith))))
    where
      below : (s : ℕ) → s ≤ 31 → mirror s ≤ 31
      below s h = let b : mirror s < 32 = mirror_below s (omega arith) in omega arith

      high : (s : ℕ) → s < 32 → word_metric newest_low branch s u ≡ weight_from (memory_high (mirror s)) received u
      high s h = metric_weight s u h l ∙ ap (λ (m : List Bool). weight_from m received u) (mirror_memory s h)

-- no more disagreements than coded bits
pub free_le : (received u : List Bool) → free_weight received u ≤ 2 * length u
unfolding free_weight weight_from
free_le received u =
    let sent : List Bool = coded dcch (memory_high 0) (reverse u) in
    let least = least_le 31 (λ s. weight_from (memory_high s) received u) 0 (omega arith) in
    omega (arith, least, disagreements_le sent received, coded-length dcch (memory_high 0) (reverse u), length-reverse u)
