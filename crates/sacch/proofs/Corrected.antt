-- A word that a push answers has no more corrected bits than the 132 it was decoded from. Assumes nothing.
use mathlib.Core.Path.{◌≡◌, refl}
use mathlib.Core.Bool.{Bool}
use mathlib.Core.List.{List}
use Prim.Native.Nat.{ℕ, ◌≤◌}
use Rattle.std.specs.Prelude.{Result, Ok, Err}
use Rattle.bits.specs.declared.Refusal.{Refusal}
use Rattle.sacch_receiver.specs.declared.ReceiveOutcome.{ReceiveOutcome}
use Rattle.sacch_receiver.specs.declared.ReceiveOutcome.TheVariants as outcome
use Rattle.bits.specs.Arguments.{Arguments, first_refusal, below_of}
use Rattle.sacch_decoder.specs.Decoding.{decode_of}
use Rattle.sacch_decoder.specs.declared.SacchWord.{SacchWord}
use Rattle.sacch_decoder.proofs.Meaning.{corrected_le}
use Rattle.sacch_receiver.specs.Receiver.{push_of, pushing, receiver_state, step_of, trial_answer}
use Rattle.sacch_receiver.specs.Stored.{decode_rows, row_bits}
use Rattle.sacch_receiver.specs.declared.SacchReceiver.{SacchReceiver}
use Rattle.sacch.proofs.Pushes.{step_answer}

-- where an answer is a word, its corrected bits are among 132
abbrev pub CorrectedIn : Result ReceiveOutcome Refusal → Type 0
CorrectedIn (Ok (outcome.Word w)) = w.corrected ≤ 132
CorrectedIn (Ok outcome.Pending) = Unit {0}
CorrectedIn (Ok (outcome.Rejected why)) = Unit {0}
CorrectedIn (Err why) = Unit {0}

trial_corrected : (received : List Bool) (dvcc : ℕ) (x : Result SacchWord Refusal) → decode_of received dvcc ≡ x → CorrectedIn (trial_answer x)
trial_corrected received dvcc (Ok word) e = corrected_le received dvcc e
trial_corrected received dvcc (Err why) e = tt

rows_corrected : (rows : List ℕ) (dvcc : ℕ) → CorrectedIn (trial_answer (decode_rows rows dvcc))
unfolding decode_rows
rows_corrected rows dvcc = trial_corrected (row_bits rows) dvcc (decode_of (row_bits rows) dvcc) refl

pub push_corrected : (r : SacchReceiver) (field dvcc : ℕ) → CorrectedIn (push_of r field dvcc).answer
unfolding push_of
push_corrected r field dvcc = by (first_refusal (receiver_state r) (below_of 4096 field))
  where
    by : (l : Arguments) → CorrectedIn (pushing l r (step_of r field dvcc)).answer
    by (Err why) = tt
    by (Ok tt) = step_answer CorrectedIn tt rows_corrected r field dvcc
