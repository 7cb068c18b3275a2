-- `sacch_encoder::SacchEncoder::encode_bits` meets its contract: the encoder fits. Assumes nothing.
use native.Mathlib.Omega.{arith}
use borrow.Author.Rules.{rules}
use Rattle.sacch_encoder.proofs.Fits.{fit_ready, cursor_next}
use Rattle.sacch_encoder.proofs.SacchEncoder.encode_bits.Goals as goal

pub store-requires : goal.store-requires
store-requires c =
    let fit = fit_ready _ _ c.in_ok-arguments.ensures in
    (fit.memory, fit.cursor)

pub field_of-requires : goal.field_of-requires
field_of-requires c = (search rules, omega (arith, cursor_next _ _ c.store.ensures.moved))
