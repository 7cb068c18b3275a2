-- A push by what the deinterleaver answers to its field. Assumes nothing.
use mathlib.Core.Path.{◌≡◌, refl, sym, ap₂, ◌∙◌}
use mathlib.Core.Bool.{Bool, true, false, cond, ◌&&◌}
use Prim.Native.Nat.{ℕ}
use lib.Dec.{ltb}
use Rattle.std.specs.Prelude.{Option, None, Some, Result, Ok, Err}
use Rattle.bits.specs.Arguments.{below_of, first_refusal}
use Rattle.bits.specs.declared.Refusal.{Refusal}
use Rattle.bits.specs.declared.Refusal.TheVariants.{State, Symbol}
use Rattle.bits.proofs.Refusing.{never_both}
use Rattle.sacch_interleaver.specs.Deinterleaver.{Deinterleaved, deinterleaver_fits, field_stored, push_row_of, pushing_row, row_found}
use Rattle.sacch_interleaver.specs.Diagonal.{row_of}
use Rattle.sacch_interleaver.specs.declared.SacchDeinterleaver.{SacchDeinterleaver}
use Rattle.sacch_receiver.specs.Receiver.{Moved, push_of, pushing, receiver_fits, row_stored, rows_fit, rows_state, step_of, tried}
use Rattle.sacch_receiver.specs.declared.ReceiveOutcome.{ReceiveOutcome}
use Rattle.sacch_receiver.specs.declared.ReceiveOutcome.TheVariants as outcome
use Rattle.sacch_receiver.specs.declared.SacchReceiver.{SacchReceiver}
use Rattle.sacch_receiver.proofs.Fitting.{passed_rows}

-- ---- a push: what the tests answer, and what the deinterleaver does
-- where the rows are not fit
pub rows_refused : (r : SacchReceiver) (field dvcc : ℕ) {why : Refusal} → rows_state r ≡ Err why → push_of r field dvcc ≡ record { answer = Err why; receiver = r }
unfolding push_of receiver_fits
rows_refused r field dvcc {why} = by (deinterleaver_fits r.deinterleaver) (rows_fit r)
  where
    by : (held rows : Bool) → cond rows (Ok (tt {0})) (Err State) ≡ Err why
        → pushing (first_refusal (cond (held && rows) (Ok (tt {0})) (Err State)) (below_of 4096 field)) r (step_of r field dvcc) ≡ record { answer = Err why; receiver = r }
    by held true e = never_both refl e
    by true false e = cc
    by false false e = cc

-- what the deinterleaver's answer gives
abbrev pub by_row : SacchReceiver → ℕ → Result (Option ℕ) Refusal → Moved ReceiveOutcome
by_row r dvcc (Err why) = record { answer = Err why; receiver = r }
by_row r dvcc (Ok None) = record { answer = Ok outcome.Pending; receiver = r }
by_row r dvcc (Ok (Some row)) = tried (row_stored r row) dvcc

module _ (r : SacchReceiver) (field dvcc : ℕ) where
  -- the receiver with another deinterleaver
  abbrev pub holding : SacchDeinterleaver → SacchReceiver
  holding d = record r { deinterleaver = d }

  pushed_by_row : rows_fit r ≡ true
      → push_of r field dvcc ≡ by_row (holding (push_row_of r.deinterleaver field).deinterleaver) dvcc (push_row_of r.deinterleaver field).answer
  unfolding push_of push_row_of receiver_fits step_of row_found
  pushed_by_row t = rw t (by (deinterleaver_fits r.deinterleaver) (ltb field 4096) (ltb (field_stored r.deinterleaver field).received 12))
    where
      d : SacchDeinterleaver
      d = field_stored r.deinterleaver field

      row : ℕ
      row = row_of d.fields d.cursor

      pushed : Bool → Bool → Bool → Deinterleaved
      pushed held small short =
          pushing_row (first_refusal (cond held (Ok (tt {0})) (Err State)) (cond small (Ok (tt {0})) (Err Symbol))) r.deinterleaver
          (record { answer = Ok (cond short None (Some row)); deinterleaver = d })

      by : (held small short : Bool)
          → pushing (first_refusal (cond (held && true) (Ok (tt {0})) (Err State)) (cond small (Ok (tt {0})) (Err Symbol))) r
          (cond short (record { answer = Ok outcome.Pending; receiver = holding d }) (tried (row_stored (holding d) row) dvcc))
          ≡ by_row (holding (pushed held small short).deinterleaver) dvcc (pushed held small short).answer
      by false small short = refl
      by true false short = refl
      by true true true = refl
      by true true false = refl

  pub pushed_told : rows_state r ≡ Ok tt → {answer : Result (Option ℕ) Refusal} {held : SacchDeinterleaver} → answer ≡ (push_row_of r.deinterleaver field).answer
      → held ≡ (push_row_of r.deinterleaver field).deinterleaver → push_of r field dvcc ≡ by_row (holding held) dvcc answer
  pushed_told t e f = pushed_by_row (passed_rows r t) ∙ sym (ap₂ (λ (d : SacchDeinterleaver) (a : Result (Option ℕ) Refusal). by_row (holding d) dvcc a) f e)
