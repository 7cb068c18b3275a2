-- `soft::step::output_pairs` meets its contract: the places passed hold the output pairs. Assumes nothing.
use mathlib.Core.Bool.{false}
use mathlib.Core.Path.{◌≡◌}
use Rattle.bits.proofs.Filled.{Filling}
use Rattle.soft.specs.Step.{output_number}
use Rattle.soft.proofs.step.output_pairs.Given as goal

abbrev pub invariant-loop-n : goal.invariant-loop-n
invariant-loop-n l = Filling (λ i x. x ≡ output_number i false) 0 16 l.pairs l.n
