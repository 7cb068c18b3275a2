-- The lock over successive trials, apart from where the rows come from. Assumes nothing.
use mathlib.Core.Path.{◌≡◌, refl, sym, ◌∙◌, ap}
use mathlib.Core.Logic.{◌≢◌}
use mathlib.Core.Bool.{Bool, true, false, cond}
use Prim.Native.Nat.{ℕ, zero, suc, ◌+◌, ◌-◌, ◌/◌, ◌%◌, ◌≤◌, ◌<◌}
use native.Mathlib.Decide.{ℕ_discrete}
use native.Mathlib.Nat.{zero-add}
use native.Mathlib.Omega.{arith}
use borrow.Author.Tests.{eq-eqb, ne_eqb, ltb-true}
use Rattle.std.specs.Prelude.{Option, None, Some, Result, Ok, Err}
use Rattle.sacch_receiver.specs.declared.ReceiveOutcome.{ReceiveOutcome}
use Rattle.sacch_receiver.specs.declared.ReceiveOutcome.TheVariants as outcome
use Rattle.bits.specs.declared.Refusal.{Refusal}
use Rattle.sacch_decoder.specs.declared.SacchWord.{SacchWord}
use Rattle.sacch_receiver.specs.Stored.{tries, lock_fits}
use Rattle.sacch_receiver.specs.Receiver.{trial_answer, trial_lock}

-- Of the eleven rows of trial t: the word sent where row a + t begins one, else no word.
pub record Windows (a N : ℕ) (sent : ℕ → SacchWord) (rows : ℕ → Result SacchWord Refusal) : Type 0 where
  pub on : (t : ℕ) → t < N → (a + t) % 11 ≡ 1 → rows t ≡ Ok (sent ((a + t) / 11))
  pub off : (t : ℕ) → t < N → (a + t) % 11 ≢ 1 → (w : SacchWord) → rows t ≢ Ok w

-- Lock and answers go on as the receiver's do, with trial t at the phase p + t.
pub record Locking (p : ℕ) (rows : ℕ → Result SacchWord Refusal) (out : ℕ → Result ReceiveOutcome Refusal) (lock : ℕ → Option ℕ) : Type 0 where
  pub next : (t : ℕ) → lock (suc t) ≡ cond (tries (lock t) ((p + t) % 11)) (trial_lock (rows t) ((p + t) % 11)) (lock t)
  pub answer : (t : ℕ) → out t ≡ cond (tries (lock t) ((p + t) % 11)) (trial_answer (rows t)) (Ok outcome.Pending)

-- N trials over rows that were sent
pub record Trials (a N p : ℕ) (sent : ℕ → SacchWord) (rows : ℕ → Result SacchWord Refusal) (out : ℕ → Result ReceiveOutcome Refusal) (lock : ℕ → Option ℕ) : Type 0 where
  pub windows : Windows a N sent rows
  pub first : lock_fits (lock 0) ≡ true
  pub locking : Locking p rows out lock

-- a word comes out at one of the trials t to u
abbrev pub WordWithin : (ℕ → Result ReceiveOutcome Refusal) → ℕ → ℕ → Type 0
WordWithin out t u = (s : ℕ) × (t ≤ s) × (s ≤ u) × ((w : SacchWord) × (out s ≡ Ok (outcome.Word w)))

-- what is no word drops the lock, and no word is answered
unlocks : (x : Result SacchWord Refusal) (p : ℕ) → ((w : SacchWord) → x ≢ Ok w) → trial_lock x p ≡ None
unlocks (Ok w) p h = absurd (h w refl)
unlocks (Err why) p h = refl

word_from : (x : Result SacchWord Refusal) (w : SacchWord) → trial_answer x ≡ Ok (outcome.Word w) → x ≡ Ok w
word_from (Ok v) w e = let same : v ≡ w = cc in ap Ok same
word_from (Err why) w e = let z : ◌≡◌ {A = ℕ} 0 1 = cc in absurd (omega arith)

no_word : (x : Result SacchWord Refusal) (why : Refusal) → trial_answer x ≡ Ok (outcome.Rejected why) → (w : SacchWord) → x ≢ Ok w
no_word x why e w f = let z : ◌≡◌ {A = ℕ} 0 1 = cc in omega arith

-- ---- one trial, whatever the rows
module _ {p : ℕ} {rows : ℕ → Result SacchWord Refusal} {out : ℕ → Result ReceiveOutcome Refusal} {lock : ℕ → Option ℕ} (locking : Locking p rows out lock) where
  abbrev pub Tried : ℕ → Bool → Type 0
  Tried t b = tries (lock t) ((p + t) % 11) ≡ b

  trial_lock_lem : (t : ℕ) → Tried t true → lock (suc t) ≡ trial_lock (rows t) ((p + t) % 11)
  trial_lock_lem t e = locking.next t ∙ ap (λ (b : Bool). cond b (trial_lock (rows t) ((p + t) % 11)) (lock t)) e

  pub trial_answer_lem : (t : ℕ) → Tried t true → out t ≡ trial_answer (rows t)
  trial_answer_lem t e = locking.answer t ∙ ap (λ (b : Bool). cond b (trial_answer (rows t)) (Ok outcome.Pending)) e

  rest_lock : (t : ℕ) → Tried t false → lock (suc t) ≡ lock t
  rest_lock t e = locking.next t ∙ ap (λ (b : Bool). cond b (trial_lock (rows t) ((p + t) % 11)) (lock t)) e

  rest_answer : (t : ℕ) → Tried t false → out t ≡ Ok outcome.Pending
  rest_answer t e = locking.answer t ∙ ap (λ (b : Bool). cond b (trial_answer (rows t)) (Ok outcome.Pending)) e

  pub free : (t : ℕ) → lock t ≡ None → Tried t true
  free t e = ap (λ (l : Option ℕ). tries l ((p + t) % 11)) e

  due : (t q : ℕ) → lock t ≡ Some q → q ≡ (p + t) % 11 → Tried t true
  due t q e h = ap (λ (l : Option ℕ). tries l ((p + t) % 11)) e ∙ eq-eqb q ((p + t) % 11) h

  waits : (t q : ℕ) → lock t ≡ Some q → q ≢ (p + t) % 11 → Tried t false
  waits t q e h = ap (λ (l : Option ℕ). tries l ((p + t) % 11)) e ∙ ne_eqb q ((p + t) % 11) h

  -- locked at q, with the phase q k trials on: that far the lock stays
  locked_waits : (k q t : ℕ) → (p + t + k) % 11 ≡ q → k < 11 → lock t ≡ Some q → (j : ℕ) → j ≤ k → lock (t + j) ≡ Some q
  locked_waits k q t b hk e zero hj = let none : t + 0 ≡ t = omega arith in ap lock none ∙ e
  locked_waits k q t b hk e (suc j) hj =
      let same : lock (t + j) ≡ Some q = locked_waits k q t b hk e j (omega arith) in
      let next : t + suc j ≡ suc (t + j) = omega arith in
      ap lock next ∙ rest_lock (t + j) (waits (t + j) q same (λ y. omega arith)) ∙ same

  -- what an answer tells of the trial: it was made, and set the lock
  pub word_locks : (t : ℕ) (w : SacchWord) → out t ≡ Ok (outcome.Word w) → (rows t ≡ Ok w) × (lock (suc t) ≡ Some ((p + t) % 11))
  word_locks t w e = by (tries (lock t) ((p + t) % 11)) refl
    where
      by : (v : Bool) → Tried t v → (rows t ≡ Ok w) × (lock (suc t) ≡ Some ((p + t) % 11))
      by false v = let z : ◌≡◌ {A = ℕ} 0 1 = cc (rest_answer t v) in absurd (omega arith)
      by true v =
          let told : rows t ≡ Ok w = word_from (rows t) w (sym (trial_answer_lem t v) ∙ e) in
          (told, trial_lock_lem t v ∙ ap (λ (x : Result SacchWord Refusal). trial_lock x ((p + t) % 11)) told)

  pub rejection_unlocks : (t : ℕ) (why : Refusal) → out t ≡ Ok (outcome.Rejected why) → lock (suc t) ≡ None
  rejection_unlocks t why e = by (tries (lock t) ((p + t) % 11)) refl
    where
      by : (v : Bool) → Tried t v → lock (suc t) ≡ None
      by false v = let z : ◌≡◌ {A = ℕ} 0 1 = cc (rest_answer t v) in absurd (omega arith)
      by true v = trial_lock_lem t v ∙ unlocks (rows t) ((p + t) % 11) (no_word (rows t) why (sym (trial_answer_lem t v) ∙ e))

  -- after a word the next ten wait, and the eleventh is a trial
  pub word_waits : (t : ℕ) (w : SacchWord) → out t ≡ Ok (outcome.Word w) → (k : ℕ) → 0 < k → k < 11 → out (t + k) ≡ Ok outcome.Pending
  word_waits t w e k hk hl =
      let q : ℕ = (p + t) % 11 in
      let l : lock (suc t + (k - 1)) ≡ Some q = locked_waits 10 q (suc t) (omega arith) (omega arith) (word_locks t w e).1 (k - 1) (omega arith) in
      let here : suc t + (k - 1) ≡ t + k = omega arith in
      rest_answer (t + k) (waits (t + k) q (ap lock (sym here) ∙ l) (λ y. omega arith))

  pub word_eleven : (t : ℕ) (w : SacchWord) → out t ≡ Ok (outcome.Word w) → out (t + 11) ≡ trial_answer (rows (t + 11))
  word_eleven t w e =
      let q : ℕ = (p + t) % 11 in
      let l : lock (suc t + 10) ≡ Some q = locked_waits 10 q (suc t) (omega arith) (omega arith) (word_locks t w e).1 10 (omega arith) in
      let here : suc t + 10 ≡ t + 11 = omega arith in
      trial_answer_lem (t + 11) (due (t + 11) q (ap lock (sym here) ∙ l) (omega arith))

-- ---- trials over rows that were sent
module _ {a N p : ℕ} {sent : ℕ → SacchWord} {rows : ℕ → Result SacchWord Refusal} {out : ℕ → Result ReceiveOutcome Refusal} {lock : ℕ → Option ℕ} (trials : Trials a N p sent rows out lock) where
  abbrev steps : Locking p rows out lock
  steps = trials.locking

  -- a trial on a boundary
  word-answer : (t : ℕ) → t < N → Tried steps t true → (a + t) % 11 ≡ 1 → out t ≡ Ok (outcome.Word (sent ((a + t) / 11)))
  word-answer t h e b = trial_answer_lem steps t e ∙ ap trial_answer (trials.windows.on t h b)

  word_lock : (t : ℕ) → t < N → Tried steps t true → (a + t) % 11 ≡ 1 → lock (suc t) ≡ Some ((p + t) % 11)
  word_lock t h e b = trial_lock_lem steps t e ∙ ap (λ (x : Result SacchWord Refusal). trial_lock x ((p + t) % 11)) (trials.windows.on t h b)

  -- and off it
  off_lock : (t : ℕ) → t < N → Tried steps t true → (a + t) % 11 ≢ 1 → lock (suc t) ≡ None
  off_lock t h e b = trial_lock_lem steps t e ∙ unlocks (rows t) ((p + t) % 11) (trials.windows.off t h b)

  -- ---- a word that comes out is the one sent, and sets the lock
  pub only_words : (t : ℕ) → t < N → (w : SacchWord) → out t ≡ Ok (outcome.Word w)
      → ((a + t) % 11 ≡ 1) × (w ≡ sent ((a + t) / 11)) × (lock (suc t) ≡ Some ((p + t) % 11))
  only_words t h w e =
      let told = word_locks steps t w e in
      elim (ℕ_discrete ((a + t) % 11) 1) [
        | yes b ↦ let i : Ok w ≡ Ok (sent ((a + t) / 11)) = sym told.0 ∙ trials.windows.on t h b in (b, (cc), told.1)
        | no b ↦ absurd (trials.windows.off t h b w told.0)
      ]

  -- ---- a word is found
  -- unlocked, with a boundary k trials on
  unlocked_finds : (k t : ℕ) → t + k < N → (a + t + k) % 11 ≡ 1 → lock t ≡ None → WordWithin out t (t + k)
  unlocked_finds zero t h b e = (t, omega arith, omega arith, (_, word-answer t (omega arith) (free steps t e) (omega arith)))
  unlocked_finds (suc k) t h b e = elim (ℕ_discrete ((a + t) % 11) 1) [
    | yes y ↦ (t, omega arith, omega arith, (_, word-answer t (omega arith) (free steps t e) y))
    | no y ↦
        let rest : WordWithin out (suc t) (suc t + k) = unlocked_finds k (suc t) (omega arith) (omega arith) (off_lock t (omega arith) (free steps t e) y) in
        (rest.0, omega (arith, rest.1), omega (arith, rest.2), rest.3)
  ]

  -- the next boundary is at trial 20 at the latest
  from_unlocked : (t : ℕ) → lock t ≡ None → t + (12 - (a + t) % 11) % 11 ≤ 20 → 21 ≤ N → WordWithin out 0 20
  from_unlocked t e h n =
      let r : WordWithin out t (t + (12 - (a + t) % 11) % 11) = unlocked_finds ((12 - (a + t) % 11) % 11) t (omega arith) (omega arith) e in
      (r.0, omega arith, omega (arith, r.2), r.3)

  -- then it is a boundary, or the lock drops and a boundary comes within ten more
  from_trial : (k : ℕ) → k < 11 → Tried steps k true → 21 ≤ N → WordWithin out 0 20
  from_trial k hk e h = elim (ℕ_discrete ((a + k) % 11) 1) [
    | yes b ↦ (k, omega arith, omega arith, (_, word-answer k (omega arith) e b))
    | no b ↦ from_unlocked (suc k) (off_lock k (omega arith) e b) (omega arith) h
  ]

  from_lock : (l : Option ℕ) → lock 0 ≡ l → lock_fits l ≡ true → 21 ≤ N → WordWithin out 0 20
  from_lock None e f h = from_unlocked 0 e (omega arith) h
  from_lock (Some q) e f h =
      let below : q < 11 = ltb-true q 11 f in
      let k : ℕ = (11 + q - p % 11) % 11 in
      let due-at : (p + k) % 11 ≡ q = omega arith in
      let at : lock (0 + k) ≡ Some q = locked_waits steps k q 0 (omega arith) (omega arith) e k (omega arith) in
      from_trial k (omega arith) (due steps k q (ap lock (sym (zero-add k)) ∙ at) (sym due-at)) h

  pub word_by_20 : 21 ≤ N → WordWithin out 0 20
  word_by_20 h = from_lock (lock 0) refl trials.first h

  -- ---- after a word
  -- locked where words begin, the lock stays
  kept : (t q : ℕ) → lock t ≡ Some q → ((s : ℕ) → t ≤ s → (p + s) % 11 ≡ q → (a + s) % 11 ≡ 1) → (k : ℕ) → t + k ≤ N → lock (t + k) ≡ Some q
  kept t q e begins zero h = ap lock (omega arith) ∙ e
  kept t q e begins (suc k) h =
      let same : lock (t + k) ≡ Some q = kept t q e begins k (omega arith) in
      let next : t + suc k ≡ suc (t + k) = omega arith in
      ap lock next
      ∙ elim (ℕ_discrete q ((p + (t + k)) % 11)) [
        | yes y ↦ word_lock (t + k) (omega arith) (due steps (t + k) q same y) (begins (t + k) (omega arith) (sym y)) ∙ ap Some (sym y)
        | no y ↦ rest_lock steps (t + k) (waits steps (t + k) q same y) ∙ same
      ]

  -- the next words come eleven trials apart, and Pending between
  pub words_follow : (t : ℕ) → t < N → (w : SacchWord) → out t ≡ Ok (outcome.Word w) → (k : ℕ) → 0 < k → t + k < N
      → (k % 11 ≡ 0 → out (t + k) ≡ Ok (outcome.Word (sent ((a + (t + k)) / 11)))) × (k % 11 ≢ 0 → out (t + k) ≡ Ok outcome.Pending)
  words_follow t h w e k hk hn =
      let q : ℕ = (p + t) % 11 in
      let b : (a + t) % 11 ≡ 1 = (only_words t h w e).0 in
      let here : suc t + (k - 1) ≡ t + k = omega arith in
      let l : lock (t + k) ≡ Some q = ap lock (sym here) ∙ kept (suc t) q (only_words t h w e).2 (λ s hs y. omega arith) (k - 1) (omega arith) in
      ((λ z. word-answer (t + k) hn (due steps (t + k) q l (omega arith)) (omega arith)), (λ z. rest_answer steps (t + k) (waits steps (t + k) q l (λ y. z (omega arith)))))
