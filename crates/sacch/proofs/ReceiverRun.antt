-- A receiver that is pushed a stream of fields: from the twelfth on it stores the rows that they complete, and from the 22nd on eleven of them are tried. Where
-- the fields are the diagonal of a stream of rows, these are the rows. Assumes nothing.
use mathlib.Core.Path.{◌≡◌, refl, sym, ◌∙◌, ap}
use mathlib.Core.Bool.{Bool, true, false, cond}
use mathlib.Core.List.{List}
use Prim.Native.Nat.{ℕ, zero, suc, ◌+◌, ◌%◌, ◌≤◌, ◌<◌, min}
use native.Mathlib.Omega.{arith}
use borrow.Author.Tests.{lt-ltb, le-ltb}
use lib.Dec.{ltb}
use lib.ListN.{get_or}
use Rattle.sacch_receiver.specs.declared.ReceiveOutcome.{ReceiveOutcome}
use Rattle.std.specs.Prelude.{Result, Ok}
use Rattle.bits.specs.declared.Refusal.{Refusal}
use Rattle.sacch_receiver.specs.declared.ReceiveOutcome.TheVariants as outcome
use Rattle.bits.specs.Numbers.{packed}
use Rattle.bits.specs.Places.{listed}
use Rattle.bits.proofs.Listed.{length-listed, get_d_listed, is_listed}
use Rattle.bits.proofs.Ring.{Holds, holds_next}
use Rattle.sacch_interleaver.specs.Diagonal.{bit_of, row_of}
use Rattle.sacch_interleaver.proofs.Diagonal.{diagonal, undone, row_of_lem, twelve_same}
use Rattle.sacch_interleaver.proofs.Rings.{after, after_start, after_then}
use Rattle.sacch_decoder.specs.declared.SacchWord.{SacchWord}
use Rattle.sacch_interleaver.specs.Deinterleaver.{field_stored}
use Rattle.sacch_interleaver.specs.declared.SacchDeinterleaver.{SacchDeinterleaver}
use Rattle.sacch_receiver.specs.Receiver.{field_taken, row_stored, locked, trial_answer, trial_lock, tried, step_of, Moved}
use Rattle.sacch_receiver.specs.Stored.{tries, window_of, decode_rows}
use Rattle.sacch_receiver.specs.declared.SacchReceiver.{SacchReceiver}
use Rattle.sacch.proofs.Fitting.{Fitting, step_fits, either}
use Rattle.sacch.proofs.Trials.{Locking}

-- ---- one step
-- a trial sets the lock alone
tried_locks : (r : SacchReceiver) (dvcc : ℕ) → (tried r dvcc).receiver ≡ locked r (tried r dvcc).receiver.locked_phase
unfolding tried locked
tried_locks r dvcc =
    let P : Moved ReceiveOutcome → Type 0 = λ m. m.receiver ≡ locked r m.receiver.locked_phase in
    either P (ltb r.available 11) _ _ refl (either P (tries r.locked_phase r.phase) _ _ refl refl)

-- the receiver with a field, and with the row that it completes
unfoldable pub rowed : SacchReceiver → ℕ → SacchReceiver
rowed r field = row_stored (field_taken r field) (row_of (field_taken r field).deinterleaver.fields (field_taken r field).deinterleaver.cursor)

-- what a step makes of the deinterleaver does not depend on what follows it
step_stores : (r : SacchReceiver) (field dvcc : ℕ) → (step_of r field dvcc).receiver.deinterleaver ≡ field_stored r.deinterleaver field
unfolding step_of row_stored locked rowed
step_stores r field dvcc =
    either (λ (m : Moved ReceiveOutcome). m.receiver.deinterleaver ≡ field_stored r.deinterleaver field) (ltb (field_stored r.deinterleaver field).received 12) _ _ refl
    (ap (λ (s : SacchReceiver). s.deinterleaver) (tried_locks (rowed r field) dvcc))

-- with eleven fields before it, a field completes a row
step_row : (r : SacchReceiver) (field dvcc : ℕ) → 11 ≤ r.deinterleaver.received → step_of r field dvcc ≡ tried (rowed r field) dvcc
unfolding step_of field_stored rowed
step_row r field dvcc h =
    ap (λ (b : Bool). cond b (record { answer = Ok outcome.Pending; receiver = field_taken r field }) (tried (rowed r field) dvcc))
    (le-ltb (field_taken r field).deinterleaver.received 12 (omega arith))

-- with fewer it waits
pub step_waits : (r : SacchReceiver) (field dvcc : ℕ) → r.deinterleaver.received < 11 → step_of r field dvcc ≡ record { answer = Ok outcome.Pending; receiver = field_taken r field }
unfolding step_of field_stored rowed
step_waits r field dvcc h =
    ap (λ (b : Bool). cond b (record { answer = Ok outcome.Pending; receiver = field_taken r field }) (tried (rowed r field) dvcc))
    (lt-ltb (field_taken r field).deinterleaver.received 12 (omega arith))

-- and so it does with fewer than eleven rows
pub tried_waits : (r : SacchReceiver) (dvcc : ℕ) → r.available < 11 → tried r dvcc ≡ record { answer = Ok outcome.Pending; receiver = r }
unfolding tried
tried_waits r dvcc h = rw (lt-ltb r.available 11 h)

-- with all eleven rows there, the lock decides; x is what they decode to
record Decided (b : Bool) (r : SacchReceiver) (x : Result SacchWord Refusal) (m : Moved ReceiveOutcome) : Type 0 where
  answer : m.answer ≡ cond b (trial_answer x) (Ok outcome.Pending)
  lock : m.receiver.locked_phase ≡ cond b (trial_lock x r.phase) r.locked_phase

decided : (b : Bool) (r : SacchReceiver) (x : Result SacchWord Refusal)
    → Decided b r x (cond b (record { answer = trial_answer x; receiver = locked r (trial_lock x r.phase) }) (record { answer = Ok outcome.Pending; receiver = r }))
unfolding locked
decided true r x = record { answer = refl; lock = refl }
decided false r x = record { answer = refl; lock = refl }

tried_decides : (r : SacchReceiver) (dvcc : ℕ) → 11 ≤ r.available
    → Decided (tries r.locked_phase r.phase) r (decode_rows (window_of r.rows r.row_cursor) dvcc) (tried r dvcc)
unfolding tried
tried_decides r dvcc h = rw (le-ltb r.available 11 h) (decided (tries r.locked_phase r.phase) r (decode_rows (window_of r.rows r.row_cursor) dvcc))

-- ---- fields one after the other
-- the receiver after i fields of a stream
abbrev pub receiver_at : ℕ → SacchReceiver → (ℕ → ℕ) → ℕ → SacchReceiver
receiver_at dvcc r fields zero = r
receiver_at dvcc r fields (suc i) = (step_of (receiver_at dvcc r fields i) (fields i) dvcc).receiver

-- the row of the fields t to 11 + t (from 0)
abbrev pub completed : (ℕ → ℕ) → ℕ → ℕ
completed fields t = packed (listed 12 (λ (j : ℕ). bit_of (fields (t + j)) j))

module _ (dvcc : ℕ) {r : SacchReceiver} (fields : ℕ → ℕ) (fit : Fitting r) (below : (i : ℕ) → fields i < 4096) where
  abbrev at : ℕ → SacchReceiver
  at i = receiver_at dvcc r fields i

  at_fits : (i : ℕ) → Fitting (at i)
  at_fits zero = fit
  at_fits (suc i) = step_fits (fields i) dvcc (at_fits i) (below i)

  pub at_received : (i : ℕ) → (at i).deinterleaver.received ≡ min 12 (r.deinterleaver.received + i)
  unfolding field_stored
  at_received zero = omega (arith, fit.fit.held.received)
  at_received (suc i) = let before : (at i).deinterleaver.received ≡ min 12 (r.deinterleaver.received + i) = at_received i in ap (λ (d : SacchDeinterleaver). d.received) (step_stores (at i) (fields i) dvcc) ∙ omega arith

  -- the ring's old places, then the stream
  abbrev seen : ℕ → ℕ
  seen = after 12 r.deinterleaver.fields r.deinterleaver.cursor fields

  stored_holds : (i : ℕ) → Holds 12 (at i).deinterleaver.fields (at i).deinterleaver.cursor seen i
      → Holds 12 (field_taken (at i) (fields i)).deinterleaver.fields (field_taken (at i) (fields i)).deinterleaver.cursor seen (suc i)
  unfolding field_stored
  stored_holds i h =
      holds_next 12 (at i).deinterleaver.fields (at i).deinterleaver.cursor seen i (fields i) (at_fits i).fields_length (at_fits i).fit.held.cursor
      (after_then 12 r.deinterleaver.fields r.deinterleaver.cursor fields i (i + 12) refl) h

  at_holds : (i : ℕ) → Holds 12 (at i).deinterleaver.fields (at i).deinterleaver.cursor seen i
  at_holds zero = after_start 12 r.deinterleaver.fields r.deinterleaver.cursor fields
  at_holds (suc i) = rw (step_stores (at i) (fields i) dvcc) (stored_holds i (at_holds i))

  -- ---- rows
  at_row : (t : ℕ) → row_of (field_taken (at (11 + t)) (fields (11 + t))).deinterleaver.fields (field_taken (at (11 + t)) (fields (11 + t))).deinterleaver.cursor ≡ completed fields t
  at_row t =
      row_of_lem _ _ seen (suc (11 + t)) (stored_holds (11 + t) (at_holds (11 + t)))
      ∙ twelve_same (λ j. bit_of (seen (suc (11 + t) + j)) j) (λ j. bit_of (fields (t + j)) j)
      (λ j h. ap (λ (x : ℕ). bit_of x j) (after_then 12 r.deinterleaver.fields r.deinterleaver.cursor fields (t + j) (suc (11 + t) + j) (omega arith)))

  -- with 11 + t fields, and with the next one stored and its row
  abbrev late : ℕ → SacchReceiver
  late t = at (11 + t)

  abbrev full : ℕ → SacchReceiver
  full t = rowed (late t) (fields (11 + t))

  pub late_fits : (t : ℕ) → Fitting (late t)
  late_fits t = at_fits (11 + t)

  pub late_step : (t : ℕ) → step_of (late t) (fields (11 + t)) dvcc ≡ tried (full t) dvcc
  late_step t = let e : (late t).deinterleaver.received ≡ min 12 (r.deinterleaver.received + (11 + t)) = at_received (11 + t) in
      step_row (late t) (fields (11 + t)) dvcc (omega arith)

  pub late_next : (t : ℕ) → late (suc t) ≡ locked (full t) (tried (full t) dvcc).receiver.locked_phase
  late_next t =
      let e : 11 + suc t ≡ suc (11 + t) = omega arith in
      ap at e ∙ ap (λ (m : Moved ReceiveOutcome). m.receiver) (late_step t) ∙ tried_locks (full t) dvcc

  -- the rows' ring: its old places, then the rows completed
  abbrev rows_seen : ℕ → ℕ
  rows_seen = after 11 (late 0).rows (late 0).row_cursor (completed fields)

  full_holds : (t : ℕ) → Holds 11 (late t).rows (late t).row_cursor rows_seen t → Holds 11 (full t).rows (full t).row_cursor rows_seen (suc t)
  unfolding rowed row_stored field_stored
  full_holds t h =
      holds_next 11 (late t).rows (late t).row_cursor rows_seen t _ (late_fits t).rows_length (late_fits t).fit.stored.row_cursor
      (after_then 11 (late 0).rows (late 0).row_cursor (completed fields) t (t + 11) refl ∙ sym (at_row t)) h

  late_holds : (t : ℕ) → Holds 11 (late t).rows (late t).row_cursor rows_seen t
  unfolding locked
  late_holds zero = after_start 11 (late 0).rows (late 0).row_cursor (completed fields)
  late_holds (suc t) = rw (late_next t) (full_holds t (late_holds t))

  pub late_available : (t : ℕ) → (late t).available ≡ min 11 ((late 0).available + t)
  unfolding locked rowed row_stored field_stored
  late_available zero = omega (arith, (late_fits 0).fit.stored.available)
  late_available (suc t) =
      let before : (late t).available ≡ min 11 ((late 0).available + t) = late_available t in ap (λ (s : SacchReceiver). s.available) (late_next t) ∙ omega arith

  late_phase : (t : ℕ) → (late t).phase ≡ ((late 0).phase + t) % 11
  unfolding locked rowed row_stored field_stored
  late_phase zero = omega (arith, (late_fits 0).fit.stored.phase)
  late_phase (suc t) =
      let before : (late t).phase ≡ ((late 0).phase + t) % 11 = late_phase t in ap (λ (s : SacchReceiver). s.phase) (late_next t) ∙ omega arith

  -- ---- trials
  -- the eleven rows of field 21 + s (from 0)
  abbrev pub window : ℕ → List ℕ
  window s = listed 11 (λ (q : ℕ). completed fields (s + q))

  window_at : (s : ℕ) → window_of (full (10 + s)).rows (full (10 + s)).row_cursor ≡ window s
  unfolding window_of
  window_at s =
      let ring = full_holds (10 + s) (late_holds (10 + s)) in
      is_listed 11 (λ q. completed fields (s + q)) 0 _ (length-listed 11 _)
      (λ q h.
      get_d_listed 11 (λ (i : ℕ). get_or (full (10 + s)).rows (((full (10 + s)).row_cursor + i) % 11) 0) 0 q h ∙ ring q h
      ∙ after_then 11 (late 0).rows (late 0).row_cursor (completed fields) (s + q) (suc (10 + s) + q) (omega arith))

  phase_at : (s : ℕ) → (full (10 + s)).phase ≡ ((late 0).phase + s) % 11
  unfolding rowed row_stored field_stored
  phase_at s = let e : (late (10 + s)).phase ≡ ((late 0).phase + (10 + s)) % 11 = late_phase (10 + s) in omega arith

  lock_at : (s : ℕ) → (full (10 + s)).locked_phase ≡ (late (10 + s)).locked_phase
  unfolding rowed row_stored field_stored
  lock_at s = refl

  enough : (s : ℕ) → 11 ≤ (full (10 + s)).available
  unfolding rowed row_stored field_stored
  enough s = let e : (late (10 + s)).available ≡ min 11 ((late 0).available + (10 + s)) = late_available (10 + s) in omega arith

  abbrev tries_at : ℕ → Bool
  tries_at s = tries (late (10 + s)).locked_phase (((late 0).phase + s) % 11)

  answer_at : (s : ℕ) → (step_of (late (10 + s)) (fields (11 + (10 + s))) dvcc).answer ≡ cond (tries_at s) (trial_answer (decode_rows (window s) dvcc)) (Ok outcome.Pending)
  answer_at s =
      ap (λ (m : Moved ReceiveOutcome). m.answer) (late_step (10 + s)) ∙ (tried_decides (full (10 + s)) dvcc (enough s)).answer
      ∙ rw (window_at s, phase_at s, lock_at s)

  next_lock : (s : ℕ) → (late (10 + suc s)).locked_phase ≡ cond (tries_at s) (trial_lock (decode_rows (window s) dvcc) (((late 0).phase + s) % 11)) (late (10 + s)).locked_phase
  next_lock s =
      let e : 11 + (10 + suc s) ≡ suc (11 + (10 + s)) = omega arith in
      ap (λ (i : ℕ). (at i).locked_phase) e
      ∙ ap (λ (m : Moved ReceiveOutcome). m.receiver.locked_phase) (late_step (10 + s)) ∙ (tried_decides (full (10 + s)) dvcc (enough s)).lock
      ∙ rw (window_at s, phase_at s, lock_at s)

  pub trials_run : Locking (late 0).phase (λ (s : ℕ). decode_rows (window s) dvcc)
      (λ (s : ℕ). (step_of (late (10 + s)) (fields (11 + (10 + s))) dvcc).answer) (λ (s : ℕ). (late (10 + s)).locked_phase)
  trials_run = record { next = next_lock; answer = answer_at }

-- ---- fields that are a diagonal
-- from the first field on, those of the slots a, a + 1 and so on of a stream of rows, where the row of slot s is rows (s + 11): the rows come back
pub diagonal_completed : (a : ℕ) (rows fields : ℕ → ℕ) → 1 ≤ a → ((k : ℕ) → 12 ≤ k → rows k < 4096) → ((i : ℕ) → fields i ≡ diagonal rows (a + i))
    → (t : ℕ) → completed fields t ≡ rows (a + t + 11)
diagonal_completed a rows fields one below sent t =
    twelve_same (λ j. bit_of (fields (t + j)) j) (λ j. bit_of (diagonal rows (a + t + j)) j)
    (λ j h. let e : a + (t + j) ≡ a + t + j = omega arith in ap (λ (x : ℕ). bit_of x j) (sent (t + j) ∙ ap (diagonal rows) e))
    ∙ undone rows (a + t) (below (a + t + 11) (omega arith))
