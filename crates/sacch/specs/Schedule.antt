-- When a receiver that has heard nothing tries, whatever the fields are (document 01, modules, 3): the first trial comes with the 22nd field; unlocked, each
-- field is a trial; locked, each eleventh. Fields count from 1.
use Rattle.std.specs.Prelude.{◌≡◌, List, ℕ, ◌+◌, ◌-◌, ◌≤◌, ◌<◌, length, Result, Ok}
use Rattle.bits.specs.Places.{listed}
use Rattle.bits.specs.declared.Refusal.{Refusal}
use Rattle.sacch_interleaver.specs.Deinterleaver.{row_heard}
use Rattle.sacch_decoder.specs.declared.SacchWord.{SacchWord}
use Rattle.sacch_receiver.specs.Receiver.{fresh_receiver, trial_answer}
use Rattle.sacch_receiver.specs.Stored.{decode_rows}
use Rattle.sacch_receiver.specs.declared.ReceiveOutcome.{ReceiveOutcome}
use Rattle.sacch_receiver.specs.declared.ReceiveOutcome.TheVariants as outcome
use Rattle.sacch.specs.Calls.{Push, Fields}
use Rattle.sacch.specs.Listening.{answer}

-- a trial with field n: what the rows of the fields n - 10 to n decode to
abbrev pub trial_heard : ℕ → List ℕ → ℕ → Result ReceiveOutcome Refusal
trial_heard dvcc fields n = trial_answer (decode_rows (listed 11 (λ (i : ℕ). row_heard fields (n - 10 + i))) dvcc)

-- the answers to `pushes`, of which `fields` are not refused
pub record Schedule (dvcc : ℕ) (pushes : List Push) (fields : List ℕ) : Type 0 where
  pub before_22 : (n : ℕ) → 1 ≤ n → n < 22 → n ≤ length fields → answer fresh_receiver pushes n ≡ Ok outcome.Pending
  pub first : 22 ≤ length fields → answer fresh_receiver pushes 22 ≡ trial_heard dvcc fields 22
  -- a rejection leaves the receiver unlocked, and the next field is a trial
  pub unlocked : (n : ℕ) → 22 ≤ n → n < length fields → (why : Refusal) → answer fresh_receiver pushes n ≡ Ok (outcome.Rejected why)
      → answer fresh_receiver pushes (n + 1) ≡ trial_heard dvcc fields (n + 1)
  -- a word locks it: ten fields wait, and the eleventh is a trial
  pub locked : (n : ℕ) → 22 ≤ n → (w : SacchWord) → answer fresh_receiver pushes n ≡ Ok (outcome.Word w)
      → ((k : ℕ) → 0 < k → k < 11 → n + k ≤ length fields → answer fresh_receiver pushes (n + k) ≡ Ok outcome.Pending)
      × (n + 11 ≤ length fields → answer fresh_receiver pushes (n + 11) ≡ trial_heard dvcc fields (n + 11))

abbrev pub TrialSchedule : Type 0
TrialSchedule = (dvcc : ℕ) (pushes : List Push) (fields : List ℕ) → Fields dvcc fresh_receiver pushes fields → Schedule dvcc pushes fields
