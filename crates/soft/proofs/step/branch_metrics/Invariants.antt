-- `soft::step::branch_metrics` meets its contract: the butterflies passed have their two branch metrics. Assumes nothing.
use mathlib.Core.Path.{◌≡◌}
use mathlib.Core.Bool.{true, false}
use mathlib.Core.List.{[], ◌∷◌}
use lib.Ieee.{nan}
use Rattle.bits.proofs.Filled.{Filling}
use Rattle.soft.specs.Branch.{pair_cost}
use Rattle.soft.specs.Step.{output_of}
use Rattle.soft.proofs.step.branch_metrics.Given as goal

abbrev pub invariant-loop-n : goal.invariant-loop-n
invariant-loop-n l = Filling (λ i x. x ≡ pair_cost l.first l.second (output_of i false 0 ∷ output_of i false 1 ∷ [])) nan 16 l.zeros l.n × Filling (λ i x. x ≡ pair_cost l.first l.second (output_of i true 0 ∷ output_of i true 1 ∷ [])) nan 16 l.ones l.n
