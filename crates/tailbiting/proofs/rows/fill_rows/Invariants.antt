-- `tailbiting::rows::fill_rows` meets its contract: the rows passed are those of their steps. Assumes nothing.
use mathlib.Core.List.{[]}
use Rattle.bits.proofs.Filled.{Filling}
use Rattle.tailbiting.specs.Rows.{RowOf}
use Rattle.tailbiting.proofs.rows.fill_rows.Given as goal

abbrev pub invariant-loop-step : goal.invariant-loop-step
invariant-loop-step l = Filling (RowOf l.received) [] 65 l.rows l.step
