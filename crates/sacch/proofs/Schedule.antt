-- When a fresh receiver tries: it has no row before the twelfth field and not eleven before the 22nd, and from there its lock decides. Assumes nothing.
use mathlib.Core.Path.{◌≡◌, refl, sym, ◌∙◌, ap}
use mathlib.Core.List.{List}
use mathlib.Core.Logic.{◌⊎◌, inl, inr}
use Prim.Native.Nat.{ℕ, zero, suc, ◌+◌, ◌-◌, ◌≤◌, ◌<◌, min}
use native.Mathlib.Decide.{dec_lt}
use native.Mathlib.Omega.{arith}
use lib.ListN.{get_or, length}
use Rattle.std.specs.Prelude.{None, Result, Ok, Err}
use Rattle.sacch_receiver.specs.declared.ReceiveOutcome.{ReceiveOutcome}
use Rattle.sacch_receiver.specs.declared.ReceiveOutcome.TheVariants as outcome
use Rattle.bits.specs.Bits.{all_below}
use Rattle.bits.specs.Places.{listed}
use Rattle.bits.specs.declared.Refusal.{Refusal}
use Rattle.bits.proofs.Listed.{listed_same}
use Rattle.sacch_interleaver.specs.Diagonal.{bit_of}
use Rattle.sacch_interleaver.proofs.Diagonal.{twelve_same}
use Rattle.sacch_decoder.specs.declared.SacchWord.{SacchWord}
use Rattle.sacch_interleaver.specs.Deinterleaver.{deinterleaver_fits, field_stored, fresh_deinterleaver, row_heard}
use Rattle.sacch_receiver.specs.Receiver.{fresh_receiver, receiver_fits, rows_fit, field_taken, row_stored, locked, trial_answer, tried, step_of, Moved}
use Rattle.sacch_receiver.specs.Stored.{decode_rows}
use Rattle.sacch_receiver.specs.declared.SacchReceiver.{SacchReceiver}
use Rattle.sacch_receiver.proofs.Fitting.{fit_of}
use Rattle.sacch.specs.Calls.{Push, Fields, answers}
use Rattle.sacch.specs.Listening.{answer}
use Rattle.sacch.specs.Schedule.{trial_heard, Schedule, TrialSchedule}
use Rattle.sacch.proofs.Fitting.{Fitting}
use Rattle.sacch.proofs.Trials.{Locking, trial_answer_lem, free, rejection_unlocks, word_waits, word_eleven}
use Rattle.sacch.proofs.ReceiverRun.{rowed, step_waits, tried_waits, receiver_at, at_received, late_step, late_next, late_available, window, trials_run}
use Rattle.sacch.proofs.Pushes.{answers_at, fields_below}

-- a trial ends in a word or in a rejection, so that a schedule settles every answer
ends : (x : Result SacchWord Refusal) → ((w : SacchWord) × (trial_answer x ≡ Ok (outcome.Word w))) ⊎ ((why : Refusal) × (trial_answer x ≡ Ok (outcome.Rejected why)))
ends (Ok w) = inl (w, refl)
ends (Err why) = inr (why, refl)

pub trial_ends : (dvcc : ℕ) (fields : List ℕ) (n : ℕ)
    → ((w : SacchWord) × (trial_heard dvcc fields n ≡ Ok (outcome.Word w))) ⊎ ((why : Refusal) × (trial_heard dvcc fields n ≡ Ok (outcome.Rejected why)))
trial_ends dvcc fields n = ends (decode_rows (listed 11 (λ (i : ℕ). row_heard fields (n - 10 + i))) dvcc)

fresh_fits : Fitting fresh_receiver
unfolding fresh_receiver fresh_deinterleaver receiver_fits rows_fit deinterleaver_fits all_below
fresh_fits = record { fit = fit_of fresh_receiver refl; fields_length = refl; rows_length = refl }

module _ (dvcc : ℕ) {pushes : List Push} {fields : List ℕ} (heard : Fields dvcc fresh_receiver pushes fields) where
  abbrev stream : ℕ → ℕ
  stream i = get_or fields i 0

  below : (i : ℕ) → stream i < 4096
  below = fields_below dvcc heard fresh_fits

  abbrev at : ℕ → SacchReceiver
  at i = receiver_at dvcc fresh_receiver stream i

  abbrev full : ℕ → SacchReceiver
  full t = rowed (at (11 + t)) (stream (11 + t))

  answer_is : (n i : ℕ) → n ≡ suc i → n ≤ length fields → answer fresh_receiver pushes n ≡ (step_of (at i) (stream i) dvcc).answer
  answer_is n i e h =
      let here : n - 1 ≡ i = omega arith in
      ap (λ (k : ℕ). get_or (answers fresh_receiver pushes) k (Ok outcome.Pending)) here ∙ answers_at dvcc heard fresh_fits stream (λ k hk. refl) i (omega arith)

  -- ---- before the twelfth field: no row
  early_step : (i : ℕ) → i < 11 → step_of (at i) (stream i) dvcc ≡ record { answer = Ok outcome.Pending; receiver = field_taken (at i) (stream i) }
  unfolding fresh_receiver fresh_deinterleaver
  early_step i h = let r : (at i).deinterleaver.received ≡ min 12 (fresh_receiver.deinterleaver.received + i) = at_received dvcc stream fresh_fits below i in step_waits (at i) (stream i) dvcc (omega arith)

  early : (i : ℕ) → i ≤ 11 → ((at i).available ≡ 0) × ((at i).locked_phase ≡ None)
  unfolding fresh_receiver field_stored
  early zero h = (refl, refl)
  early (suc i) h =
      let s : at (suc i) ≡ field_taken (at i) (stream i) = ap (λ (m : Moved ReceiveOutcome). m.receiver) (early_step i (omega arith)) in
      let e = early i (omega arith) in
      (ap (λ (r : SacchReceiver). r.available) s ∙ e.0, ap (λ (r : SacchReceiver). r.locked_phase) s ∙ e.1)

  -- ---- before the 22nd: fewer than eleven
  few : (t : ℕ) → t < 10 → tried (full t) dvcc ≡ record { answer = Ok outcome.Pending; receiver = full t }
  unfolding rowed row_stored field_stored
  few t h =
      let a : (at (11 + t)).available ≡ min 11 ((at (11 + 0)).available + t) = late_available dvcc stream fresh_fits below t in
      let z : (at 11).available ≡ 0 = (early 11 (omega arith)).0 in
      tried_waits (full t) dvcc (omega arith)

  still_unlocked : (t : ℕ) → t ≤ 10 → (at (11 + t)).locked_phase ≡ None
  unfolding rowed row_stored field_stored locked
  still_unlocked zero h = (early 11 (omega arith)).1
  still_unlocked (suc t) h =
      ap (λ (r : SacchReceiver). r.locked_phase) (late_next dvcc stream fresh_fits below t)
      ∙ ap (λ (m : Moved ReceiveOutcome). m.receiver.locked_phase) (few t (omega arith)) ∙ still_unlocked t (omega arith)

  pending_early : (n i : ℕ) → n ≡ suc i → n < 22 → n ≤ length fields → answer fresh_receiver pushes n ≡ Ok outcome.Pending
  pending_early n i e h l = answer_is n i e l ∙ elim (dec_lt i 11) [
    | yes b ↦ ap (λ (m : Moved ReceiveOutcome). m.answer) (early_step i b)
    | no b ↦
        let t : 11 + (i - 11) ≡ i = omega arith in
        ap (λ (k : ℕ). (step_of (at k) (stream k) dvcc).answer) (sym t)
        ∙ ap (λ (m : Moved ReceiveOutcome). m.answer) (late_step dvcc stream fresh_fits below (i - 11) ∙ few (i - 11) (omega arith))
  ]

  -- ---- from the 22nd on
  abbrev rows : ℕ → Result SacchWord Refusal
  rows s = decode_rows (window dvcc stream fresh_fits below s) dvcc

  abbrev out : ℕ → Result ReceiveOutcome Refusal
  out s = (step_of (at (11 + (10 + s))) (stream (11 + (10 + s))) dvcc).answer

  steps : Locking (at (11 + 0)).phase rows out (λ (s : ℕ). (at (11 + (10 + s))).locked_phase)
  steps = trials_run dvcc stream fresh_fits below

  trial_is : (n s : ℕ) → n ≡ s + 22 → trial_answer (rows s) ≡ trial_heard dvcc fields n
  trial_is n s e =
      ap (λ (l : List ℕ). trial_answer (decode_rows l dvcc))
      (listed_same 11 _ _
      (λ q. twelve_same (λ j. bit_of (stream (s + q + j)) j) (λ j. bit_of (stream (n - 10 + q - 12 + j)) j)
      (λ j h. let i : s + q + j ≡ n - 10 + q - 12 + j = omega arith in ap (λ (k : ℕ). bit_of (stream k) j) i)))

  out_is : (n s : ℕ) → n ≡ s + 22 → n ≤ length fields → answer fresh_receiver pushes n ≡ out s
  out_is n s e l = answer_is n (11 + (10 + s)) (omega arith) l

  schedule : Schedule dvcc pushes fields
  schedule = record {
    before_22 = λ n one h l. pending_early n (n - 1) (omega arith) h l;
    first = λ l. out_is 22 0 refl l ∙ trial_answer_lem steps 0 (free steps 0 (still_unlocked 10 (omega arith))) ∙ trial_is 22 0 refl;
    unlocked = λ n lo l why e.
        let s : ℕ = n - 22 in
        let o : out s ≡ _ = sym (out_is n s (omega arith) (omega arith)) ∙ e in
        out_is (n + 1) (suc s) (omega arith) (omega arith)
        ∙ trial_answer_lem steps (suc s) (free steps (suc s) (rejection_unlocks steps s why o)) ∙ trial_is (n + 1) (suc s) (omega arith);
    locked = λ n lo w e.
        let s : ℕ = n - 22 in (
          (λ k hk hl l. out_is (n + k) (s + k) (omega arith) l ∙ word_waits steps s w (sym (out_is n s (omega arith) (omega arith)) ∙ e) k hk hl),
          (λ l. out_is (n + 11) (s + 11) (omega arith) l ∙ word_eleven steps s w (sym (out_is n s (omega arith) (omega arith)) ∙ e) ∙ trial_is (n + 11) (s + 11) (omega arith)),
        );
  }

pub trial_schedule : TrialSchedule
trial_schedule dvcc pushes fields heard = schedule dvcc heard
