-- The receiver's calls on values. Stored.antt has its lock and its rows.
use Rattle.std.specs.Prelude.{Bool, cond, ◌&&◌, ℕ, ◌+◌, ◌%◌, min, ltb, replicate, set, Option, None, Some, Result, Ok, Err}
use Rattle.bits.specs.Arguments.{Arguments, first_refusal, below_of}
use Rattle.bits.specs.declared.Refusal.{Refusal}
use Rattle.sacch_interleaver.specs.Deinterleaver.{deinterleaver_fits, field_stored, fresh_deinterleaver, state_unless}
use Rattle.sacch_interleaver.specs.Diagonal.{all_twelve, row_of}
use Rattle.sacch_decoder.specs.declared.SacchWord.{SacchWord}
use Rattle.sacch_receiver.specs.declared.SacchReceiver.{SacchReceiver}
use Rattle.sacch_receiver.specs.Stored.{lock_fits, tries, window_of, decode_rows}
use Rattle.sacch_receiver.specs.declared.ReceiveOutcome.{ReceiveOutcome}
use Rattle.sacch_receiver.specs.declared.ReceiveOutcome.TheVariants as outcome
use Rattle.sacch_receiver.specs.declared.Pushed.{Pushed}

-- ---- the state
unfoldable pub fresh_receiver : SacchReceiver
fresh_receiver = record {
  deinterleaver = fresh_deinterleaver;
  rows = replicate 11 0;
  row_cursor = 0;
  available = 0;
  phase = 0;
  locked_phase = None;
}

-- document 01, 'Numbers from the state': the states that refusal 8 lets pass, of what stands beside the deinterleaver and of the whole
unfoldable pub rows_fit : SacchReceiver → Bool
rows_fit r = ltb r.row_cursor 11 && ltb r.available 12 && ltb r.phase 11 && lock_fits r.locked_phase && all_twelve r.rows

unfoldable pub receiver_fits : SacchReceiver → Bool
receiver_fits r = deinterleaver_fits r.deinterleaver && rows_fit r

abbrev pub rows_state : SacchReceiver → Arguments
rows_state r = state_unless (rows_fit r)

abbrev pub receiver_state : SacchReceiver → Arguments
receiver_state r = state_unless (receiver_fits r)

-- ---- one field
-- its deinterleaver takes the field
abbrev pub field_taken : SacchReceiver → ℕ → SacchReceiver
field_taken r field = record r { deinterleaver = field_stored r.deinterleaver field }

-- the row of twelve fields takes the place of the oldest row, and the phase goes on
unfoldable pub row_stored : SacchReceiver → ℕ → SacchReceiver
row_stored r row = record r {
  rows = set r.rows r.row_cursor row;
  row_cursor = (r.row_cursor + 1) % 11;
  available = min 11 (r.available + 1);
  phase = (r.phase + 1) % 11;
}

unfoldable pub locked : SacchReceiver → Option ℕ → SacchReceiver
locked r lock = record r { locked_phase = lock }

-- ---- a trial
-- a word, or a rejection where the rows decode to no word
abbrev pub trial_answer : Result SacchWord Refusal → Result ReceiveOutcome Refusal
trial_answer (Ok word) = Ok (outcome.Word word)
trial_answer (Err why) = Ok (outcome.Rejected why)

-- a word sets the lock, a rejection drops it
abbrev pub trial_lock : Result SacchWord Refusal → ℕ → Option ℕ
trial_lock (Ok word) phase = Some phase
trial_lock (Err why) phase = None

-- ---- the calls: what they answer, and the receiver after them
pub record Moved (A : Type 0) : Type 0 where
  pub answer : Result A Refusal
  pub receiver : SacchReceiver

abbrev pub moved : Pushed → Moved ReceiveOutcome
moved p = record { answer = p.outcome; receiver = p.receiver }

-- With eleven rows, and at a phase that the lock allows, the rows are tried.
unfoldable pub tried : SacchReceiver → ℕ → Moved ReceiveOutcome
tried r dvcc =
    cond (ltb r.available 11) (record { answer = Ok outcome.Pending; receiver = r })
    (cond (tries r.locked_phase r.phase)
    (record {
      answer = trial_answer (decode_rows (window_of r.rows r.row_cursor) dvcc);
      receiver = locked r (trial_lock (decode_rows (window_of r.rows r.row_cursor) dvcc) r.phase);
    })
    (record { answer = Ok outcome.Pending; receiver = r }))

-- a field of twelve bits: with twelve received it completes a row, which is stored and tried
unfoldable pub step_of : SacchReceiver → ℕ → ℕ → Moved ReceiveOutcome
step_of r field dvcc =
    cond (ltb (field_taken r field).deinterleaver.received 12) (record { answer = Ok outcome.Pending; receiver = field_taken r field })
    (tried (row_stored (field_taken r field) (row_of (field_taken r field).deinterleaver.fields (field_taken r field).deinterleaver.cursor)) dvcc)

-- State, then Symbol where the field is above 4095; both leave the receiver
abbrev pub pushing : Arguments → SacchReceiver → Moved ReceiveOutcome → Moved ReceiveOutcome
pushing (Err why) r m = record { answer = Err why; receiver = r }
pushing (Ok passed) r m = m

unfoldable pub push_of : SacchReceiver → ℕ → ℕ → Moved ReceiveOutcome
push_of r field dvcc = pushing (first_refusal (receiver_state r) (below_of 4096 field)) r (step_of r field dvcc)

-- ---- the wrapper: Pending and rejections alike are nothing
abbrev pub word_only : Result ReceiveOutcome Refusal → Result (Option SacchWord) Refusal
word_only (Ok outcome.Pending) = Ok None
word_only (Ok (outcome.Word word)) = Ok (Some word)
word_only (Ok (outcome.Rejected why)) = Ok None
word_only (Err why) = Err why

unfoldable pub push_word_of : SacchReceiver → ℕ → ℕ → Moved (Option SacchWord)
push_word_of r field dvcc = record { answer = word_only (push_of r field dvcc).answer; receiver = (push_of r field dvcc).receiver }
