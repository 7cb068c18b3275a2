-- `viterbi::pair_symbols` meets its contract: the steps passed have the numbers of their pairs. Assumes nothing.
use Rattle.std.proofs.Common.{◌≡◌, ◌≤◌, ◌/◌, length}
use Rattle.bits.proofs.Filled.{Filling}
use Rattle.viterbi.specs.Rows.{pair_of}
use Rattle.viterbi.proofs.pair_symbols.Given as goal

abbrev pub invariant-loop-step : goal.invariant-loop-step
invariant-loop-step l = (l.step-end ≡ length l.coded / 2) × (l.step ≤ length l.coded / 2) × Filling (λ k x. x ≡ pair_of l.coded k) 0 130 l.symbols l.step
