-- The listening rule. Assumes nothing.
use mathlib.Core.Path.{◌≡◌, refl, sym, ◌∙◌, ap}
use mathlib.Core.List.{List}
use Prim.Native.Nat.{ℕ, suc, ◌+◌, ◌-◌, ◌*◌, ◌/◌, ◌%◌, ◌≤◌, ◌<◌, min}
use native.Mathlib.Omega.{arith}
use lib.ListN.{get_or, length, take, drop, length-take, length-drop}
use lib.Seq.{length-take-le, get_or-take, get_or-drop}
use Rattle.std.specs.Prelude.{Result, Ok}
use Rattle.bits.specs.declared.Refusal.{Refusal}
use Rattle.sacch_receiver.specs.declared.ReceiveOutcome.{ReceiveOutcome}
use Rattle.sacch_receiver.specs.declared.ReceiveOutcome.TheVariants as outcome
use Rattle.bits.proofs.Listed.{is_listed}
use Rattle.sacch_interleaver.proofs.Diagonal.{diagonal, diagonal_below}
use Rattle.sacch_encoder.specs.Encoder.{fields_from}
use Rattle.sacch_encoder.specs.declared.SacchEncoder.{SacchEncoder}
use Rattle.sacch_encoder.proofs.Fits.{fit_of}
use Rattle.sacch_decoder.specs.declared.SacchWord.{SacchWord}
use Rattle.sacch_receiver.specs.Stored.{decode_rows}
use Rattle.sacch_receiver.specs.Receiver.{step_of}
use Rattle.sacch_receiver.specs.declared.SacchReceiver.{SacchReceiver}
use Rattle.sacch.specs.Calls.{EncoderCall, Given, fields_sent, Push, answers}
use Rattle.sacch.specs.Listening.{rows_from, sixes_for_all, word_sent, Listened, heard_rows, NoFalseWord, answer, Promised, ListeningRule}
use Rattle.sacch.proofs.Trials.{Windows, Trials, WordWithin, only_words, word_by_20, words_follow}
use Rattle.sacch_receiver.proofs.Fitting as receiving
use Rattle.sacch.proofs.Fitting.{Fitting, FittingEncoder}
use Rattle.sacch.proofs.ReceiverRun.{receiver_at, completed, late_fits, window, trials_run, diagonal_completed}
use Rattle.sacch.proofs.Pushes.{answers-length, answers_at}
use Rattle.sacch.proofs.EncoderRun.{fields_sent_lem, fields_length, on_air, on_air_then, on_air_below, fields_diagonal}
use Rattle.sacch.proofs.WordRows.{rows_length, all_length, word_rows}

-- ---- a part of a list
part_length : (n k : ℕ) (l part : List ℕ) → take n (drop k l) ≡ part → length part ≡ n → 0 < n → k + n ≤ length l
part_length n k l part e h p =
    let a : length (take n (drop k l)) ≡ min n (length l - k) = length-take n (drop k l) ∙ ap (min n) (length-drop k l) in
    let b : length (take n (drop k l)) ≡ length part = ap length e in
    omega arith

part_at : (n k : ℕ) (l : List ℕ) (i : ℕ) → i < n → get_or (take n (drop k l)) i 0 ≡ get_or l (k + i) 0
part_at n k l i h = get_or-take n (drop k l) i 0 h ∙ get_or-drop k l i 0

module _ {dvcc a : ℕ} {e : SacchEncoder} {calls : List EncoderCall} {given : List Given} {r : SacchReceiver} {pushes : List Push} {fields : List ℕ}
    (listened : Listened dvcc a e calls given r pushes fields) where
  -- ---- what is sent, with no end: the rows on air, and the fields from the a-th on
  abbrev sixes : List ℕ
  sixes = sixes_for_all dvcc given

  abbrev sent_rows : List ℕ
  sent_rows = rows_from e.memory sixes

  abbrev air : ℕ → ℕ
  air = on_air e sixes

  unfoldable field : ℕ → ℕ
  field i = diagonal air (a + i)

  encoder : FittingEncoder e
  encoder = record { fit = fit_of e listened.encoder_fit; rows_length = listened.encoder_rows }

  receiver : Fitting r
  receiver = record { fit = receiving.fit_of r listened.receiver_fit; fields_length = listened.receiver_fields; rows_length = listened.receiver_rows }

  all_sent : fields_sent e calls ≡ fields_from e sixes
  all_sent = fields_sent_lem dvcc listened.words encoder

  rows_given : length sent_rows ≡ 11 * length given
  rows_given = rows_length sixes e.memory ∙ all_length dvcc given

  -- with a field pushed, what was sent reaches it
  reach : 0 < length fields → a - 1 + length fields ≤ 11 * length given
  reach h =
      let sent : a - 1 + length fields ≤ length (fields_sent e calls) = part_length (length fields) (a - 1) (fields_sent e calls) fields listened.in_order refl h in
      let all : length (fields_sent e calls) ≡ 11 * length given = ap length all_sent ∙ fields_length sixes e ∙ all_length dvcc given in
      omega arith

  field_at : (i : ℕ) → i < length fields → get_or fields i 0 ≡ field i
  unfolding field
  field_at i h =
      let one : 1 ≤ a = listened.from_one in
      let reached : a - 1 + length fields ≤ 11 * length given = reach (omega arith) in
      let size : length sixes ≡ 11 * length given = all_length dvcc given in
      let slot : suc (a - 1 + i) ≡ a + i = omega arith in
      ap (λ (l : List ℕ). get_or l i 0) (sym listened.in_order) ∙ part_at (length fields) (a - 1) (fields_sent e calls) i h
      ∙ ap (λ (l : List ℕ). get_or l (a - 1 + i) 0) all_sent ∙ fields_diagonal e sixes encoder (a - 1 + i) (omega arith) ∙ ap (diagonal air) slot

  field_below : (i : ℕ) → field i < 4096
  unfolding field
  field_below i = diagonal_below air (a + i)

  row_back : (t : ℕ) → completed field t ≡ air (a + t + 11)
  unfolding field
  row_back t = diagonal_completed a air field listened.from_one (on_air_below e sixes) (λ i. refl) t

  -- ---- the rows of a trial
  abbrev rows_tried : ℕ → List ℕ
  rows_tried t = window dvcc field receiver field_below t

  heard : (t : ℕ) → t < length fields - 21 → heard_rows dvcc e given (a + t) ≡ rows_tried t
  heard t h =
      let one : 1 ≤ a = listened.from_one in
      let reached : a - 1 + length fields ≤ 11 * length given = reach (omega arith) in
      let size : length sent_rows ≡ 11 * length given = rows_given in
      let left : length (drop (a + t - 1) sent_rows) ≡ length sent_rows - (a + t - 1) = length-drop (a + t - 1) sent_rows in
      is_listed 11 (λ q. completed field (t + q)) 0 _ (length-take-le 11 (drop (a + t - 1) sent_rows) (omega arith))
      (λ q hq. part_at 11 (a + t - 1) sent_rows q hq ∙ sym (on_air_then e sixes (a + t - 1 + q) (a + (t + q) + 11) (omega arith)) ∙ sym (row_back (t + q)))

  on : (t : ℕ) → t < length fields - 21 → (a + t) % 11 ≡ 1
      → ((a + t) / 11 < length given) × (decode_rows (rows_tried t) dvcc ≡ Ok (word_sent dvcc e given ((a + t) / 11)))
  on t h b =
      let reached : a - 1 + length fields ≤ 11 * length given = reach (omega arith) in
      let start : a + t - 1 ≡ 11 * ((a + t) / 11) = omega arith in
      let index : (a + t) / 11 < length given = omega arith in (
        index,
        ap (λ (l : List ℕ). decode_rows l dvcc) (sym (heard t h) ∙ ap (λ (k : ℕ). take 11 (drop k sent_rows)) start)
            ∙ word_rows dvcc listened.words encoder ((a + t) / 11) index,
      )

  -- ---- the answers of the fields from the 22nd on are those of the trials
  abbrev out : ℕ → Result ReceiveOutcome Refusal
  out t = (step_of (receiver_at dvcc r field (11 + (10 + t))) (field (11 + (10 + t))) dvcc).answer

  answer_is : (n t : ℕ) → n ≡ t + 22 → n ≤ length fields → answer r pushes n ≡ out t
  answer_is n t h l =
      let e : n - 1 ≡ 11 + (10 + t) = omega arith in
      ap (λ (k : ℕ). get_or (answers r pushes) k (Ok outcome.Pending)) e
      ∙ answers_at dvcc listened.pushed receiver field field_at (11 + (10 + t)) (omega arith)

  module _ (no_false : NoFalseWord dvcc a e given (length fields)) where
    windows : Windows a (length fields - 21) (word_sent dvcc e given) (λ (t : ℕ). decode_rows (rows_tried t) dvcc)
    windows = record {
      on = λ t h b. (on t h b).1;
      off = λ t h b w z.
          let m : a + (t + 22) - 22 ≡ a + t = omega arith in
          no_false (t + 22) (omega arith) (omega arith) (λ y. b (omega arith)) w
          (ap (λ (k : ℕ). decode_rows (heard_rows dvcc e given k) dvcc) m ∙ ap (λ (l : List ℕ). decode_rows l dvcc) (heard t h) ∙ z);
    }

    trials : Trials a (length fields - 21) (receiver_at dvcc r field 11).phase (word_sent dvcc e given) (λ (t : ℕ). decode_rows (rows_tried t) dvcc) out
        (λ (t : ℕ). (receiver_at dvcc r field (11 + (10 + t))).locked_phase)
    trials = record { windows = windows; first = (late_fits dvcc field receiver field_below 10).fit.stored.lock; locking = trials_run dvcc field receiver field_below }

    -- where field n gives a word
    word_at : (n : ℕ) → 22 ≤ n → n ≤ length fields → (w : SacchWord) → answer r pushes n ≡ Ok (outcome.Word w) → out (n - 22) ≡ Ok (outcome.Word w)
    word_at n h l w o = sym (answer_is n (n - 22) (omega arith) l) ∙ o

    promised : Promised dvcc a e given r pushes (length fields)
    promised = record {
      counts = answers-length dvcc listened.pushed;
      only_sent = λ n h l w o.
          let m : a + (n - 22) ≡ a + n - 22 = omega arith in
          let s = only_words trials (n - 22) (omega arith) w (word_at n h l w o) in
          rw (← m) (s.0, (on (n - 22) (omega arith) s.0).0, s.1);
      by_42 = λ h.
          let s : WordWithin out 0 20 = word_by_20 trials (omega arith) in
          let u : s.0 ≤ 20 = s.2 in
          (s.0 + 22, omega arith, omega arith, (s.3.0, answer_is (s.0 + 22) s.0 refl (omega arith) ∙ s.3.1));
      follows = λ f h l w o k hk hl.
          let first : (a + (f - 22)) % 11 ≡ 1 = (only_words trials (f - 22) (omega arith) w (word_at f h l w o)).0 in
          let s = words_follow trials (f - 22) (omega arith) w (word_at f h l w o) k hk (omega arith) in
          let m : a + (f - 22 + k) ≡ a + (f + k) - 22 = omega arith in
          let i : answer r pushes (f + k) ≡ out (f - 22 + k) = answer_is (f + k) (f - 22 + k) (omega arith) hl in
          ((λ z. rw (← m) ((on (f - 22 + k) (omega arith) (omega arith)).0, i ∙ s.0 z)), (λ z. i ∙ s.1 z));
    }

pub listening : ListeningRule
listening dvcc a e calls given r pushes fields listened no_false = promised listened no_false
