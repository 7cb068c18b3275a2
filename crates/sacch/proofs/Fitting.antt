-- What the tests of the states say, and that steps keep them. Assumes nothing.
use mathlib.Core.Path.{◌≡◌, refl, ◌∙◌}
use mathlib.Core.Bool.{Bool, true, false, cond}
use mathlib.Core.List.{List, [], ◌∷◌}
use Prim.Native.Nat.{ℕ, ◌≤◌, ◌<◌}
use native.Mathlib.Omega.{arith}
use borrow.Author.Tests.{lt-ltb, le-ltb}
use lib.Dec.{ltb}
use lib.ListN.{length, length-set}
use Rattle.sacch_receiver.specs.declared.ReceiveOutcome.{ReceiveOutcome}
use Rattle.std.specs.Prelude.{Option, Result, Ok, Err}
use Rattle.bits.specs.declared.Refusal.{Refusal}
use Rattle.bits.specs.Arguments.{first_refusal, below_of}
use Rattle.bits.specs.declared.Refusal.TheVariants.{State, Symbol}
use Rattle.sacch_interleaver.specs.Diagonal.{row_of}
use Rattle.sacch_interleaver.proofs.Diagonal.{twelve_below}
use Rattle.sacch_interleaver.specs.Deinterleaver.{field_stored}
use Rattle.sacch_interleaver.specs.declared.SacchDeinterleaver.{SacchDeinterleaver}
use Rattle.sacch_interleaver.proofs.Deinterleaving.{stored_fits}
use Rattle.bits.proofs.Below.{below_set}
use Rattle.sacch_encoder.specs.Encoder.{encoder_fits, encoded, encoded_all}
use Rattle.sacch_encoder.specs.declared.SacchEncoder.{SacchEncoder}
use Rattle.sacch_encoder.proofs.Fits as encoder
use Rattle.sacch_decoder.specs.declared.SacchWord.{SacchWord}
use Rattle.sacch_receiver.proofs.Fitting.{Fit, fits_of}
use Rattle.sacch_receiver.specs.Receiver.{receiver_fits, field_taken, row_stored, locked, trial_lock, tried, step_of, Moved}
use Rattle.sacch_receiver.specs.Stored.{lock_fits, tries, window_of, decode_rows}
use Rattle.sacch_receiver.specs.declared.SacchReceiver.{SacchReceiver}

-- ---- a call on a state that fits: only its number is left to test
module _ {state : Bool} (fits : state ≡ true) (limit x : ℕ) where
  pub call_passed : x < limit → first_refusal (cond state (Ok tt) (Err State)) (below_of limit x) ≡ Ok tt
  call_passed h = rw (fits, lt-ltb x limit h)

  pub call_refused : limit ≤ x → first_refusal (cond state (Ok tt) (Err State)) (below_of limit x) ≡ Err Symbol
  call_refused h = rw (fits, le-ltb x limit h)

-- ---- the encoder, with the length that its array has
pub record FittingEncoder (e : SacchEncoder) : Type 0 where
  pub fit : encoder.Fit e
  pub rows_length : length e.rows ≡ 12

pub encoder_fit : {e : SacchEncoder} → FittingEncoder e → encoder_fits e ≡ true
encoder_fit {e} f = encoder.fits e f.fit

pub encoded_fits : {e : SacchEncoder} (six : ℕ) → FittingEncoder e → FittingEncoder (encoded e six)
unfolding encoded
encoded_fits {e} six f = record { fit = encoder.fit_encoded e six f.fit; rows_length = length-set e.rows e.cursor _ ∙ f.rows_length }

pub all_fit : {e : SacchEncoder} (sixes : List ℕ) → FittingEncoder e → FittingEncoder (encoded_all e sixes)
unfolding encoded_all
all_fit [] f = f
all_fit {e = e} (six ∷ sixes) f = all_fit {e = encoded e six} sixes (encoded_fits six f)

-- ---- the receiver, with the lengths that its arrays have
pub record Fitting (r : SacchReceiver) : Type 0 where
  pub fit : Fit r
  pub fields_length : length r.deinterleaver.fields ≡ 12
  pub rows_length : length r.rows ≡ 11

pub fits : {r : SacchReceiver} → Fitting r → receiver_fits r ≡ true
fits {r} f = fits_of r f.fit

-- a step keeps it
pub field_fits : {r : SacchReceiver} (field : ℕ) → Fitting r → field < 4096 → Fitting (field_taken r field)
unfolding field_stored
field_fits {r} field f h =
    let s = f.fit.stored in
    let d : SacchDeinterleaver = r.deinterleaver in
    record {
      fit = record {
        held = stored_fits d field f.fit.held h;
        stored = record { row_cursor = s.row_cursor; available = s.available; phase = s.phase; lock = s.lock; rows = s.rows };
      };
      fields_length = length-set d.fields d.cursor field ∙ f.fields_length;
      rows_length = f.rows_length;
    }

row_fits : {r : SacchReceiver} (row : ℕ) → Fitting r → row < 4096 → Fitting (row_stored r row)
unfolding row_stored
row_fits {r} row f h =
    let s = f.fit.stored in
    record {
      fit = record {
        held = f.fit.held;
        stored = record {
          row_cursor = omega arith;
          available = omega arith;
          phase = omega arith;
          lock = s.lock;
          rows = below_set 4096 r.rows r.row_cursor row s.rows h;
        };
      };
      fields_length = f.fields_length;
      rows_length = length-set r.rows r.row_cursor row ∙ f.rows_length;
    }

lock_fits_lem : {r : SacchReceiver} (l : Option ℕ) → Fitting r → lock_fits l ≡ true → Fitting (locked r l)
unfolding locked
lock_fits_lem l f h =
    let s = f.fit.stored in
    record {
      fit = record {
        held = f.fit.held;
        stored = record { row_cursor = s.row_cursor; available = s.available; phase = s.phase; lock = h; rows = s.rows };
      };
      fields_length = f.fields_length;
      rows_length = f.rows_length;
    }

trial_lock_fits : (x : Result SacchWord Refusal) (p : ℕ) → p < 11 → lock_fits (trial_lock x p) ≡ true
trial_lock_fits (Ok word) p h = lt-ltb p 11 h
trial_lock_fits (Err why) p h = refl

-- what holds of both arms holds of the choice
pub either : {A : Type 0} (P : A → Type 0) (b : Bool) (x y : A) → P x → P y → P (cond b x y)
either P true x y p q = p
either P false x y p q = q

tried_fits : {r : SacchReceiver} (dvcc : ℕ) → Fitting r → Fitting (tried r dvcc).receiver
unfolding tried
tried_fits {r} dvcc f =
    let P : Moved ReceiveOutcome → Type 0 = λ m. Fitting m.receiver in
    either P (ltb r.available 11) _ _ f
    (either P (tries r.locked_phase r.phase) _ _ (lock_fits_lem _ f (trial_lock_fits (decode_rows (window_of r.rows r.row_cursor) dvcc) r.phase f.fit.stored.phase)) f)

pub step_fits : {r : SacchReceiver} (field dvcc : ℕ) → Fitting r → field < 4096 → Fitting (step_of r field dvcc).receiver
unfolding step_of row_of
step_fits {r} field dvcc f h =
    let stored : Fitting (field_taken r field) = field_fits field f h in
    either (λ (m : Moved ReceiveOutcome). Fitting m.receiver) (ltb (field_taken r field).deinterleaver.received 12) _ _ stored
    (tried_fits dvcc (row_fits _ stored (twelve_below _)))
