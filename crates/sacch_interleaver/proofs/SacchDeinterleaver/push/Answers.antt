-- `sacch_interleaver::SacchDeinterleaver::push` meets its contract: a state that is not refused has its cursor in the ring. Assumes nothing.
use mathlib.Core.Path.{sym, ap}
use native.Mathlib.Omega.{arith}
use Rattle.sacch_interleaver.specs.Deinterleaver.{field_stored}
use Rattle.sacch_interleaver.specs.declared.SacchDeinterleaver.{SacchDeinterleaver}
use Rattle.sacch_interleaver.proofs.Deinterleaving.{passed_state}
use Rattle.sacch_interleaver.proofs.SacchDeinterleaver.push.Goals as goal

pub store-requires : goal.store-requires
store-requires c = (passed_state _ (sym c.in_ok-state.ensures)).cursor

pub row-requires : goal.row-requires
unfolding field_stored
row-requires c = omega (arith, ap (λ (d : SacchDeinterleaver). d.cursor) c.store.ensures)
