-- `sacch_receiver::SacchReceiver::push_outcome` meets its contract: a state that is not refused has its cursors in the rings. Assumes nothing.
use mathlib.Core.Path.{sym, ap}
use native.Mathlib.Omega.{arith}
use Rattle.sacch_receiver.specs.Receiver.{row_stored}
use Rattle.sacch_receiver.specs.declared.SacchReceiver.{SacchReceiver}
use Rattle.sacch_receiver.proofs.Fitting.{passed_rows, rows_fit_of}
use Rattle.sacch_receiver.proofs.SacchReceiver.push_outcome.Goals as goal

pub store-requires : goal.store-requires
store-requires c = let fit = rows_fit_of _ (passed_rows _ (sym c.in_ok-state.ensures)) in (fit.row_cursor, fit.phase)

pub trial-requires : goal.trial-requires
unfolding row_stored
trial-requires c = omega (arith, ap (λ (r : SacchReceiver). r.row_cursor) c.store.ensures)
