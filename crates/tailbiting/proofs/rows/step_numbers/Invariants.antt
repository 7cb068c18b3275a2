-- `tailbiting::rows::step_numbers` meets its contract: the steps passed have their numbers. Assumes nothing.
use mathlib.Core.Path.{◌≡◌}
use Rattle.bits.proofs.Filled.{Filling}
use Rattle.tailbiting.proofs.rows.step_numbers.Given as goal

abbrev pub invariant-loop-step : goal.invariant-loop-step
invariant-loop-step l = Filling (λ k x. x ≡ k) 0 65 l.symbols l.step
