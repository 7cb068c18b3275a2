-- SACCH's answers and the receiver as flat records. A refusal is a number of document 01, or 0.
use Rattle.std.specs.Prelude.{true, false, cond, ℕ, eqb, List, replicate, Option, None, Some, Result, Ok, Err}
use Rattle.bits.specs.Refusals.{number_of, expected_of, actual_of}
use Rattle.bits.specs.declared.Refusal.{Refusal}
use Rattle.sacch_interleaver.specs.Deinterleaver.{Deinterleaved}
use Rattle.sacch_interleaver.specs.declared.SacchDeinterleaver.{SacchDeinterleaver}
use Rattle.sacch_encoder.specs.Encoder.{Sent}
use Rattle.sacch_encoder.specs.declared.SacchEncoder.{SacchEncoder}
use Rattle.sacch_decoder.specs.declared.SacchWord.{SacchWord}
use Rattle.sacch_receiver.specs.Receiver.{Moved}
use Rattle.sacch_receiver.specs.declared.ReceiveOutcome.{ReceiveOutcome}
use Rattle.sacch_receiver.specs.declared.ReceiveOutcome.TheVariants.{Pending, Word, Rejected}
use Rattle.sacch_receiver.specs.declared.SacchReceiver.{SacchReceiver}
use Rattle.flat_sacch.specs.declared.Field.{Field}
use Rattle.flat_sacch.specs.declared.Fields.{Fields}
use Rattle.flat_sacch.specs.declared.Word.{Word as FlatWord}
use Rattle.flat_sacch.specs.declared.deinterleaver.Row.{Row}
use Rattle.flat_sacch.specs.declared.receiver.Receiver.{Receiver}
use Rattle.flat_sacch.specs.declared.receiver.Pushed.{Pushed}

-- ---- the encoder: what was made, or zeros where the call is refused
abbrev field_of : Result ℕ Refusal → SacchEncoder → Field
field_of (Ok field) e = record { refusal = 0; encoder = e; field = field }
field_of (Err why) e = record { refusal = number_of why; encoder = e; field = 0 }

abbrev pub flat_field : Sent ℕ → Field
flat_field s = field_of s.answer s.encoder

abbrev fields_of : Result (List ℕ) Refusal → SacchEncoder → Fields
fields_of (Ok fields) e = record { refusal = 0; encoder = e; fields = fields }
fields_of (Err why) e = record { refusal = number_of why; encoder = e; fields = replicate 11 0 }

abbrev pub flat_fields : Sent (List ℕ) → Fields
flat_fields s = fields_of s.answer s.encoder

-- ---- the decoder: a word, or the numbers of a refusal with zeros beside them
abbrev pub no_word : Refusal → FlatWord
no_word why =
    record { refusal = number_of why; expected = expected_of why; actual = actual_of why; continuation = false; message = 0; corrected = 0; ending = 0 }

abbrev pub flat_word : Result SacchWord Refusal → FlatWord
flat_word (Ok w) =
    record {
      refusal = 0;
      expected = 0;
      actual = 0;
      continuation = w.continuation;
      message = w.message;
      corrected = w.corrected;
      ending = w.ending;
    }
flat_word (Err why) = no_word why

-- ---- the deinterleaver
abbrev pub flat_row : Result (Option ℕ) Refusal → SacchDeinterleaver → Row
flat_row (Ok (Some row)) d = record { refusal = 0; complete = true; row = row; deinterleaver = d }
flat_row (Ok None) d = record { refusal = 0; complete = false; row = 0; deinterleaver = d }
flat_row (Err why) d = record { refusal = number_of why; complete = false; row = 0; deinterleaver = d }

abbrev pub flat_pushed_row : Deinterleaved → Row
flat_pushed_row m = flat_row m.answer m.deinterleaver

-- ---- the receiver: its lock is the locked phase, or 255 where there is none
unfoldable pub lock_of : ℕ → Option ℕ
lock_of lock = cond (eqb lock 255) None (Some lock)

abbrev pub lock_byte : Option ℕ → ℕ
lock_byte None = 255
lock_byte (Some phase) = phase

unfoldable pub receiver_of : Receiver → SacchReceiver
receiver_of r = record {
  deinterleaver = record { fields = r.fields; cursor = r.field_cursor; received = r.received };
  rows = r.rows;
  row_cursor = r.row_cursor;
  available = r.available;
  phase = r.phase;
  locked_phase = lock_of r.lock;
}

unfoldable pub flat_receiver : SacchReceiver → Receiver
flat_receiver s = record {
  fields = s.deinterleaver.fields;
  field_cursor = s.deinterleaver.cursor;
  received = s.deinterleaver.received;
  rows = s.rows;
  row_cursor = s.row_cursor;
  available = s.available;
  phase = s.phase;
  lock = lock_byte s.locked_phase;
}

-- an answer without a word, and one with a word
abbrev pub no_word_pushed : ℕ → ℕ → Receiver → Pushed
no_word_pushed kind refusal r = record { kind = kind; refusal = refusal; continuation = false; message = 0; corrected = 0; ending = 0; receiver = r }

abbrev pub word_pushed : SacchWord → Receiver → Pushed
word_pushed w r =
    record { kind = 1; refusal = 0; continuation = w.continuation; message = w.message; corrected = w.corrected; ending = w.ending; receiver = r }

-- Pending, a word, a rejection or a refusal
abbrev pub flat_answer : Result ReceiveOutcome Refusal → Receiver → Pushed
flat_answer (Ok Pending) r = no_word_pushed 0 0 r
flat_answer (Ok (Word w)) r = word_pushed w r
flat_answer (Ok (Rejected why)) r = no_word_pushed 2 (number_of why) r
flat_answer (Err why) r = no_word_pushed 3 (number_of why) r

unfoldable pub flat_moved : Moved ReceiveOutcome → Pushed
flat_moved m = flat_answer m.answer (flat_receiver m.receiver)

-- nothing, a word or a refusal
abbrev pub flat_word_answer : Result (Option SacchWord) Refusal → Receiver → Pushed
flat_word_answer (Ok None) r = no_word_pushed 0 0 r
flat_word_answer (Ok (Some w)) r = word_pushed w r
flat_word_answer (Err why) r = no_word_pushed 3 (number_of why) r

unfoldable pub flat_moved_word : Moved (Option SacchWord) → Pushed
flat_moved_word m = flat_word_answer m.answer (flat_receiver m.receiver)
