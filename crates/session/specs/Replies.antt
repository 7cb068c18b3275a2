-- What a line is answered, and the receiver after it.
-- What it asks for is in lines/specs/Commands.antt; what the decoders answer, in sacch_receiver/specs and facch/specs/Decoding.antt.
use Rattle.std.specs.Prelude.{List, ℕ, Result, Ok, Err}
use Rattle.bits.specs.declared.Refusal.{Refusal}
use Rattle.bits.specs.declared.Refusal.TheVariants.{Line}
use Rattle.facch.specs.Decoding.{decode_of}
use Rattle.facch.specs.declared.FacchWord.{FacchWord}
use Rattle.lines.specs.Commands.{parsed}
use Rattle.lines.specs.Masked.{observed_bits}
use Rattle.lines.specs.declared.command.Command.{Command}
use Rattle.lines.specs.declared.command.Command.TheVariants as command
use Rattle.lines.specs.declared.reply.Reply.{Reply}
use Rattle.lines.specs.declared.reply.Reply.TheVariants as reply
use Rattle.sacch_receiver.specs.Receiver.{fresh_receiver, push_of}
use Rattle.sacch_receiver.specs.declared.ReceiveOutcome.{ReceiveOutcome}
use Rattle.sacch_receiver.specs.declared.ReceiveOutcome.TheVariants as outcome
use Rattle.sacch_receiver.specs.declared.SacchReceiver.{SacchReceiver}

-- what a line is answered, the receiver after it, and the colour code on it
pub record Replied : Type 0 where
  pub receiver : SacchReceiver
  pub dvcc : ℕ
  pub reply : Reply

-- an `S` line: `P`, `R n` or `W c m k e`
unfoldable pub sacch_reply : Result ReceiveOutcome Refusal → Reply
sacch_reply (Ok outcome.Pending) = reply.Pending
sacch_reply (Ok (outcome.Word w)) = reply.SacchWord w.continuation w.message w.corrected w.ending
sacch_reply (Ok (outcome.Rejected why)) = reply.Refused why
sacch_reply (Err why) = reply.Refused why

unfoldable pub sacch_replied : SacchReceiver → ℕ → ℕ → Replied
sacch_replied r dvcc field =
    record { receiver = (push_of r field dvcc).receiver; dvcc = dvcc; reply = sacch_reply (push_of r field dvcc).answer }

-- an `F` line: `R n` or `G c m k o`
unfoldable pub facch_reply : Result FacchWord Refusal → Reply
facch_reply (Ok x) = reply.FacchWord x.continuation x.message x.corrected x.observed
facch_reply (Err why) = reply.Refused why

-- `S` pushes to the one receiver, `D` is its discontinuity, and no other line touches it. A line of no known form is refused with 7, Line.
unfoldable pub command_replied : SacchReceiver → List ℕ → Command → Replied
command_replied r l command.Blank = record { receiver = r; dvcc = 0; reply = reply.Nothing }
command_replied r l (command.Sacch dvcc field) = sacch_replied r dvcc field
command_replied r l command.Discontinuity = record { receiver = fresh_receiver; dvcc = 0; reply = reply.Discontinuous }
command_replied r l (command.Facch dvcc) = record { receiver = r; dvcc = dvcc; reply = facch_reply (decode_of (observed_bits l) dvcc) }
command_replied r l command.Unknown = record { receiver = r; dvcc = 0; reply = reply.Refused Line }

unfoldable pub reply_to : SacchReceiver → List ℕ → Replied
reply_to r l = command_replied r l (parsed l)
