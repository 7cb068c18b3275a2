-- The tests of a receiver's state, and what they say. Assumes nothing.
use mathlib.Core.Path.{◌≡◌}
use mathlib.Core.Bool.{Bool, true, ◌&&◌}
use Prim.Native.Nat.{◌<◌}
use borrow.Author.Tests.{ltb-true, lt-ltb}
use lib.Dec.{ltb}
use Rattle.std.specs.Prelude.{Ok}
use Rattle.bits.specs.declared.Refusal.TheVariants.{State}
use Rattle.bits.proofs.Refusing.{test_passed}
use Rattle.sacch_interleaver.specs.Deinterleaver.{deinterleaver_fits}
use Rattle.sacch_interleaver.specs.Diagonal.{all_twelve}
use Rattle.sacch_interleaver.proofs.Deinterleaving.{and_parts}
use Rattle.sacch_interleaver.proofs.Deinterleaving as deinterleaving
use Rattle.sacch_receiver.specs.Receiver.{receiver_fits, rows_fit, rows_state}
use Rattle.sacch_receiver.specs.Stored.{lock_fits}
use Rattle.sacch_receiver.specs.declared.SacchReceiver.{SacchReceiver}

-- ---- what stands beside the deinterleaver
pub record RowsFit (r : SacchReceiver) : Type 0 where
  pub row_cursor : r.row_cursor < 11
  pub available : r.available < 12
  pub phase : r.phase < 11
  pub lock : lock_fits r.locked_phase ≡ true
  pub rows : all_twelve r.rows ≡ true

pub rows_fit_of : (r : SacchReceiver) → rows_fit r ≡ true → RowsFit r
unfolding rows_fit
rows_fit_of r t =
    let available : Bool = ltb r.row_cursor 11 && ltb r.available 12 in
    let phase : Bool = available && ltb r.phase 11 in
    let t₁ = and_parts (phase && lock_fits r.locked_phase) (all_twelve r.rows) t in
    let t₂ = and_parts phase (lock_fits r.locked_phase) t₁.0 in
    let t₃ = and_parts available (ltb r.phase 11) t₂.0 in
    let t₄ = and_parts (ltb r.row_cursor 11) (ltb r.available 12) t₃.0 in
    record { row_cursor = ltb-true _ _ t₄.0; available = ltb-true _ _ t₄.1; phase = ltb-true _ _ t₃.1; lock = t₂.1; rows = t₁.1 }

pub passed_rows : (r : SacchReceiver) → rows_state r ≡ Ok tt → rows_fit r ≡ true
passed_rows r e = (test_passed (rows_fit r) State (Ok tt) e).0

-- ---- the whole
pub record Fit (r : SacchReceiver) : Type 0 where
  pub held : deinterleaving.Fit r.deinterleaver
  pub stored : RowsFit r

pub fit_of : (r : SacchReceiver) → receiver_fits r ≡ true → Fit r
unfolding receiver_fits
fit_of r t =
    let both = and_parts (deinterleaver_fits r.deinterleaver) (rows_fit r) t in
    record { held = deinterleaving.fit_of r.deinterleaver both.0; stored = rows_fit_of r both.1 }

pub fits_of : (r : SacchReceiver) → Fit r → receiver_fits r ≡ true
unfolding receiver_fits rows_fit
fits_of r f =
    let s = f.stored in
    rw (deinterleaving.fits_of r.deinterleaver f.held, lt-ltb _ _ s.row_cursor, lt-ltb _ _ s.available, lt-ltb _ _ s.phase, s.lock) s.rows
