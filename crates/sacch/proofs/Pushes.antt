-- The answers to a list of pushes are those of the steps: a refused push leaves the receiver and is not counted. Assumes nothing.
use mathlib.Core.Path.{◌≡◌, refl, sym, ◌∙◌, ap, subst}
use mathlib.Core.Bool.{Bool, true, false, cond, false≢true}
use mathlib.Core.List.{List, [], ◌∷◌}
use Prim.Native.Nat.{ℕ, zero, suc, ◌≤◌, ◌<◌}
use native.Mathlib.Decide.{dec_lt}
use native.Mathlib.Omega.{arith}
use lib.Dec.{ltb}
use lib.ListN.{get_or, length}
use Rattle.std.specs.Prelude.{Result, Ok, Err}
use Rattle.bits.specs.declared.Refusal.{Refusal}
use Rattle.sacch_receiver.specs.declared.ReceiveOutcome.{ReceiveOutcome}
use Rattle.sacch_receiver.specs.declared.ReceiveOutcome.TheVariants as outcome
use Rattle.bits.specs.Arguments.{Arguments, first_refusal, below_of}
use Rattle.bits.proofs.Below.{below_head, below_tail}
use Rattle.sacch_interleaver.specs.Diagonal.{all_twelve}
use Rattle.sacch_decoder.specs.declared.SacchWord.{SacchWord}
use Rattle.sacch_receiver.specs.Receiver.{receiver_state, field_taken, trial_answer, tried, step_of, pushing, push_of, Moved}
use Rattle.sacch_receiver.specs.Stored.{tries, window_of, decode_rows}
use Rattle.sacch_receiver.specs.declared.SacchReceiver.{SacchReceiver}
use Rattle.sacch.specs.Calls.{Push, Fields, no_fields, pushed, refused_push, is_refused, pushed_by, answers}
use Rattle.sacch.proofs.Fitting.{Fitting, fits, step_fits, either, call_passed, call_refused}
use Rattle.sacch.proofs.ReceiverRun.{receiver_at}

-- ---- a step is answered Pending, or as eleven rows decode
module _ (P : Result ReceiveOutcome Refusal → Type 0) (waits : P (Ok outcome.Pending)) (trial : (rows : List ℕ) (dvcc : ℕ) → P (trial_answer (decode_rows rows dvcc))) where
  abbrev AnswerHas : Moved ReceiveOutcome → Type 0
  AnswerHas m = P m.answer

  tried-answer : (r : SacchReceiver) (dvcc : ℕ) → AnswerHas (tried r dvcc)
  unfolding tried
  tried-answer r dvcc =
      either AnswerHas (ltb r.available 11) _ _ waits (either AnswerHas (tries r.locked_phase r.phase) _ _ (trial (window_of r.rows r.row_cursor) dvcc) waits)

  pub step_answer : (r : SacchReceiver) (field dvcc : ℕ) → AnswerHas (step_of r field dvcc)
  unfolding step_of
  step_answer r field dvcc = either AnswerHas (ltb (field_taken r field).deinterleaver.received 12) _ _ waits (tried-answer _ dvcc)

-- it is no refusal
trial_taken : (x : Result SacchWord Refusal) → is_refused (trial_answer x) ≡ false
trial_taken (Ok word) = refl
trial_taken (Err why) = refl

tried-taken : (r : SacchReceiver) (dvcc : ℕ) → is_refused (tried r dvcc).answer ≡ false
tried-taken = tried-answer (λ a. is_refused a ≡ false) refl (λ rows dvcc. trial_taken (decode_rows rows dvcc))

step_taken : (r : SacchReceiver) (field dvcc : ℕ) → is_refused (step_of r field dvcc).answer ≡ false
step_taken = step_answer (λ a. is_refused a ≡ false) refl (λ rows dvcc. trial_taken (decode_rows rows dvcc))

-- ---- one push
-- a refused one leaves the receiver
pushing_leaves : (l : Arguments) (r : SacchReceiver) (m : Moved ReceiveOutcome) → is_refused m.answer ≡ false → is_refused (pushing l r m).answer ≡ true → (pushing l r m).receiver ≡ r
pushing_leaves (Err why) r m n t = refl
pushing_leaves (Ok tt) r m n t = absurd (false≢true (sym n ∙ t))

pub refused_stays : (r : SacchReceiver) (p : Push) → is_refused (pushed_by r p).answer ≡ true → (pushed_by r p).receiver ≡ r
unfolding push_of
refused_stays r p t =
    pushing_leaves (first_refusal (receiver_state r) (below_of 4096 p.field)) r (step_of r p.field p.dvcc) (step_taken r p.field p.dvcc) t

module _ {r : SacchReceiver} (fit : Fitting r) (field dvcc : ℕ) where
  pub push_steps : field < 4096 → push_of r field dvcc ≡ step_of r field dvcc
  unfolding push_of
  push_steps h = ap (λ (l : Arguments). pushing l r (step_of r field dvcc)) (call_passed (fits fit) 4096 field h)

  push_refused : 4096 ≤ field → is_refused (push_of r field dvcc).answer ≡ true
  unfolding push_of
  push_refused h = ap (λ (l : Arguments). is_refused (pushing l r (step_of r field dvcc)).answer) (call_refused (fits fit) 4096 field h)

  -- refused exactly where the field has more than twelve bits
  pub push_taken : is_refused (push_of r field dvcc).answer ≡ false → field < 4096
  push_taken n = elim (dec_lt field 4096) [
    | yes h ↦ h
    | no h ↦ absurd (false≢true (sym n ∙ push_refused (omega arith)))
  ]

  push_fits : field < 4096 → Fitting (push_of r field dvcc).receiver
  push_fits h = subst (λ (m : Moved ReceiveOutcome). Fitting m.receiver) (sym (push_steps h)) (step_fits field dvcc fit h)

-- ---- a list of pushes
module _ (r : SacchReceiver) (p : Push) (pushes : List Push) where
  answers-taken : is_refused (pushed_by r p).answer ≡ false → answers r (p ∷ pushes) ≡ (pushed_by r p).answer ∷ answers (pushed_by r p).receiver pushes
  unfolding answers
  answers-taken n = ap (λ (b : Bool). cond b (answers (pushed_by r p).receiver pushes) ((pushed_by r p).answer ∷ answers (pushed_by r p).receiver pushes)) n

  answers_refused : is_refused (pushed_by r p).answer ≡ true → answers r (p ∷ pushes) ≡ answers r pushes
  unfolding answers
  answers_refused t =
      ap (λ (b : Bool). cond b (answers (pushed_by r p).receiver pushes) ((pushed_by r p).answer ∷ answers (pushed_by r p).receiver pushes)) t
      ∙ ap (λ (s : SacchReceiver). answers s pushes) (refused_stays r p t)

pub answers-length : (dvcc : ℕ) {r : SacchReceiver} {pushes : List Push} {fields : List ℕ} → Fields dvcc r pushes fields → length (answers r pushes) ≡ length fields
unfolding answers
answers-length dvcc no_fields = refl
answers-length dvcc (pushed {r} {pushes} field n rest) = ap length (answers-taken r (record { field = field; dvcc = dvcc }) pushes n) ∙ ap suc (answers-length dvcc rest)
answers-length dvcc (refused_push {r} {pushes} p t rest) =
    ap length (answers_refused r p pushes t) ∙ ap (λ (s : SacchReceiver). length (answers s pushes)) (sym (refused_stays r p t)) ∙ answers-length dvcc rest

-- one field more at the front of a stream
receiver_later : (dvcc : ℕ) (r : SacchReceiver) (stream : ℕ → ℕ) (i : ℕ)
    → receiver_at dvcc r stream (suc i) ≡ receiver_at dvcc (step_of r (stream 0) dvcc).receiver (λ k. stream (suc k)) i
receiver_later dvcc r stream zero = refl
receiver_later dvcc r stream (suc i) = ap (λ (s : SacchReceiver). (step_of s (stream (suc i)) dvcc).receiver) (receiver_later dvcc r stream i)

pub answers_at : (dvcc : ℕ) {r : SacchReceiver} {pushes : List Push} {fields : List ℕ} → Fields dvcc r pushes fields → Fitting r
    → (stream : ℕ → ℕ) → ((i : ℕ) → i < length fields → get_or fields i 0 ≡ stream i) → (i : ℕ) → i < length fields
    → get_or (answers r pushes) i (Ok outcome.Pending) ≡ (step_of (receiver_at dvcc r stream i) (stream i) dvcc).answer
answers_at dvcc no_fields fit stream same i hi = absurd (omega arith)
answers_at dvcc (pushed {r} {pushes} field n rest) fit stream same zero hi =
    ap (λ (l : List (Result ReceiveOutcome Refusal)). get_or l 0 (Ok outcome.Pending)) (answers-taken r (record { field = field; dvcc = dvcc }) pushes n)
    ∙ ap (λ (m : Moved ReceiveOutcome). m.answer) (push_steps fit field dvcc (push_taken fit field dvcc n)) ∙ ap (λ (x : ℕ). (step_of r x dvcc).answer) (same 0 hi)
answers_at dvcc (pushed {r} {pushes} field n rest) fit stream same (suc i) hi =
    let h : field < 4096 = push_taken fit field dvcc n in
    let first : field ≡ stream 0 = same 0 (omega arith) in
    ap (λ (l : List (Result ReceiveOutcome Refusal)). get_or l (suc i) (Ok outcome.Pending)) (answers-taken r (record { field = field; dvcc = dvcc }) pushes n)
    ∙ answers_at dvcc rest (push_fits fit field dvcc h) (λ k. stream (suc k)) (λ k hk. same (suc k) (omega arith)) i (omega arith)
    ∙ ap (λ (s : SacchReceiver). (step_of s (stream (suc i)) dvcc).answer)
    (ap (λ (m : Moved ReceiveOutcome). receiver_at dvcc m.receiver (λ k. stream (suc k)) i) (push_steps fit field dvcc h)
    ∙ ap (λ (x : ℕ). receiver_at dvcc (step_of r x dvcc).receiver (λ k. stream (suc k)) i) first ∙ sym (receiver_later dvcc r stream i))
answers_at dvcc (refused_push {r} {pushes} p t rest) fit stream same i hi =
    let stays : (pushed_by r p).receiver ≡ r = refused_stays r p t in
    ap (λ (l : List (Result ReceiveOutcome Refusal)). get_or l i (Ok outcome.Pending)) (answers_refused r p pushes t)
    ∙ ap (λ (s : SacchReceiver). get_or (answers s pushes) i (Ok outcome.Pending)) (sym stays)
    ∙ answers_at dvcc rest (subst Fitting (sym stays) fit) stream same i hi
    ∙ ap (λ (s : SacchReceiver). (step_of (receiver_at dvcc s stream i) (stream i) dvcc).answer) stays

pub fields_below : (dvcc : ℕ) {r : SacchReceiver} {pushes : List Push} {fields : List ℕ} → Fields dvcc r pushes fields → Fitting r → (i : ℕ) → get_or fields i 0 < 4096
fields_below dvcc no_fields fit i = omega arith
fields_below dvcc (pushed field n rest) fit zero = push_taken fit field dvcc n
fields_below dvcc (pushed field n rest) fit (suc i) = fields_below dvcc rest (push_fits fit field dvcc (push_taken fit field dvcc n)) i
fields_below dvcc (refused_push {r} p t rest) fit i = fields_below dvcc rest (subst Fitting (sym (refused_stays r p t)) fit) i

-- the pushes of fields, one after the other
abbrev pub field_pushes : ℕ → List ℕ → List Push
field_pushes dvcc [] = []
field_pushes dvcc (field ∷ fields) = record { field = field; dvcc = dvcc } ∷ field_pushes dvcc fields

-- none is refused where each field has twelve bits
pub fields_pushed : (dvcc : ℕ) (fields : List ℕ) {r : SacchReceiver} → Fitting r → all_twelve fields ≡ true → Fields dvcc r (field_pushes dvcc fields) fields
fields_pushed dvcc [] fit t = no_fields
fields_pushed dvcc (field ∷ fields) {r} fit t =
    let h : field < 4096 = below_head 4096 field fields t in
    pushed field (ap (λ (m : Moved ReceiveOutcome). is_refused m.answer) (push_steps fit field dvcc h) ∙ step_taken r field dvcc)
    (fields_pushed dvcc fields (push_fits fit field dvcc h) (below_tail 4096 field fields t))
