-- `puncturing::symbols` meets its contract: the steps passed have their symbols. Assumes nothing.
use mathlib.Core.Path.{◌≡◌}
use Rattle.bits.proofs.Filled.{Filling}
use Rattle.puncturing.specs.Rows.{symbol_of}
use Rattle.puncturing.proofs.symbols.Given as goal

abbrev pub invariant-loop-step : goal.invariant-loop-step
invariant-loop-step l = Filling (λ k x. x ≡ symbol_of l.coded k) 0 108 l.received-items l.step
