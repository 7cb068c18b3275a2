-- The word that the soft search finds is one of the words searched: it ends in five zeros, whatever the reliabilities. Assumes nothing.
use mathlib.Core.Path.{◌≡◌, refl, ap, ◌∙◌}
use mathlib.Core.List.{List}
use mathlib.Core.Bool.{Bool}
use Prim.Native.Nat.{ℕ, zero, suc, ◌≤◌}
use native.Mathlib.Omega.{arith}
use lib.ListN.{length}
use lib.Ieee.{Float}
use Rattle.coding.specs.Registers.{memory_high}
use Rattle.trellis.specs.Numbering.{newest_high}
use Rattle.trellis.specs.Trellis.{Trellis, Costs, doubles, decision, predecessor, survivor, word, origin}
use Rattle.trellis.specs.Words.{Terminated}
use Rattle.trellis.proofs.Registers.{register_high_lem}
use Rattle.trellis.proofs.PathWord.{word-length, word_state, origin_below, last_five_lem}
use Rattle.soft.specs.Branch.{soft_trellis}
use Rattle.soft.specs.Soft.{soft_word}

survivor-length : {C : Type 0} (K : Costs C) (X : Trellis C) (n t : ℕ) → length (survivor K X n t) ≡ n
unfolding survivor
survivor-length K X zero t = refl
survivor-length K X (suc n) t = ap suc (survivor-length K X n (predecessor X t (decision K X n t)))

pub soft_terminated : (values : List Float) (n : ℕ) → 5 ≤ n → Terminated n (soft_word values n)
unfolding soft_word
soft_terminated values n h =
    let p : List Bool = survivor doubles (soft_trellis values) n 0 in
    let l : length (word newest_high 0 p) ≡ n = word-length newest_high 0 p ∙ survivor-length doubles (soft_trellis values) n 0 in
    record {
      steps = l;
      tail = last_five_lem newest_high register_high_lem (origin newest_high 0 p) (word newest_high 0 p) (origin_below newest_high register_high_lem 0 p (omega arith)) (omega (arith, l))
          ∙ ap memory_high (word_state newest_high register_high_lem 0 p (omega arith));
    }
