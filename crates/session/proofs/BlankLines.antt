-- Long and blank lines: what they write, what they leave, and that every other line is answered. Assumes nothing.
use mathlib.Core.Path.{◌≡◌, refl, ap, ap₂}
use mathlib.Core.List.{List, [], ◌∷◌}
use Prim.Native.Nat.{ℕ, ◌<◌, ◌≤◌}
use native.Mathlib.Nat.{add-zero}
use lib.ListN.{length, get_or, replicate}
use lib.Seq.{set-get_or}
use Rattle.std.specs.Prelude.{Result, Ok, Err}
use Rattle.bits.specs.declared.Refusal.{Refusal}
use Rattle.facch.specs.Decoding.{decode_of}
use Rattle.facch.specs.declared.FacchWord.{FacchWord}
use Rattle.text.specs.LineKinds.{ShortBlank}
use Rattle.text.specs.Numerals.{digits, glyph, hexadecimal}
use Rattle.text.proofs.LineKinds.{never}
use Rattle.lines.specs.Commands.{parsed}
use Rattle.lines.specs.Masked.{observed_bits}
use Rattle.lines.specs.Printing.{refusal_text, reply_text, word_text}
use Rattle.lines.specs.declared.command.Command.{Command}
use Rattle.lines.specs.declared.command.Command.TheVariants as command
use Rattle.lines.specs.declared.reply.Reply.{Reply}
use Rattle.lines.proofs.Forms.{parsed-blank}
use Rattle.sacch_receiver.specs.declared.ReceiveOutcome.{ReceiveOutcome}
use Rattle.sacch_receiver.specs.declared.ReceiveOutcome.TheVariants as outcome
use Rattle.sacch_receiver.specs.Receiver.{push_of}
use Rattle.sacch_receiver.specs.declared.SacchReceiver.{SacchReceiver}
use Rattle.session.specs.declared.totals.Tally.{Tally}
use Rattle.session.specs.BlankLines.{LengthFirst, OnlyWrites, line_refused}
use Rattle.session.specs.Output.{State, next, said}
use Rattle.session.specs.Replies.{Replied, command_replied, facch_reply, reply_to, sacch_replied, sacch_reply}
use Rattle.session.specs.Totals.{added_by, counted, nothing_added, summed}
use Rattle.session.proofs.Replying.{long_replied, spaces_replied}

-- ---- a line that adds nothing and leaves the receiver
nothing_summed : (t : Tally) → summed t nothing_added ≡ t
unfolding summed nothing_added
nothing_summed t = rw (add-zero t.words, add-zero t.corrected, add-zero t.coded) refl

nothing_counted : (counts : List ℕ) (dvcc : ℕ) → counted counts dvcc 0 ≡ counts
unfolding counted
nothing_counted counts dvcc = rw (add-zero (get_or counts dvcc 0)) (set-get_or counts dvcc 0)

only_writes : (s : State) (l : List ℕ) {a : Reply} → reply_to s.receiver l ≡ record { receiver = s.receiver; dvcc = 0; reply = a }
    → added_by a ≡ nothing_added → OnlyWrites s l (reply_text a)
unfolding next said nothing_added
only_writes s l {a} e none =
    record {
      writes = ap (λ (p : Replied). reply_text p.reply) e;
      keeps =
          rw (e, none)
          (ap₂ (λ (t : Tally) (counts : List ℕ). record { receiver = s.receiver; tally = t; counts = counts })
          (nothing_summed s.tally) (nothing_counted s.counts 0));
    }

long_line : (s : State) (l : List ℕ) → 136 < length l → OnlyWrites s l line_refused
unfolding reply_text added_by line_refused refusal_text hexadecimal digits glyph
long_line s l h = only_writes s l (long_replied s.receiver l h) refl

spaces_line : (s : State) (n : ℕ) → n ≤ 136 → OnlyWrites s (replicate n 32) []
unfolding reply_text added_by
spaces_line s n h = only_writes s (replicate n 32) (spaces_replied s.receiver n h) refl

-- ---- every other line is answered
written : {x : ℕ} {xs : List ℕ} {A : Type 0} → x ∷ xs ≡ [] → A
written e = never cc

sacch_written : (a : Result ReceiveOutcome Refusal) {A : Type 0} → reply_text (sacch_reply a) ≡ [] → A
unfolding sacch_reply reply_text refusal_text word_text
sacch_written (Ok outcome.Pending) e = written e
sacch_written (Ok (outcome.Word w)) e = written e
sacch_written (Ok (outcome.Rejected why)) e = written e
sacch_written (Err why) e = written e

facch-written : (a : Result FacchWord Refusal) {A : Type 0} → reply_text (facch_reply a) ≡ [] → A
unfolding facch_reply reply_text refusal_text word_text
facch-written (Ok x) e = written e
facch-written (Err why) e = written e

command_written : (r : SacchReceiver) (l : List ℕ) (c : Command) → reply_text (command_replied r l c).reply ≡ [] → c ≡ command.Blank
unfolding command_replied sacch_replied reply_text refusal_text
command_written r l command.Blank e = refl
command_written r l (command.Sacch dvcc field) e = sacch_written (push_of r field dvcc).answer e
command_written r l command.Discontinuity e = written e
command_written r l (command.Facch dvcc) e = facch-written (decode_of (observed_bits l) dvcc) e
command_written r l command.Unknown e = written e

skipped_line : (s : State) (l : List ℕ) → said s l ≡ [] → ShortBlank l
unfolding said reply_to
skipped_line s l e = parsed-blank l (command_written s.receiver l (parsed l) e)

-- THE RULE of long and blank lines
pub length_first : LengthFirst
length_first = record { long = long_line; spaces = spaces_line; only = skipped_line }
