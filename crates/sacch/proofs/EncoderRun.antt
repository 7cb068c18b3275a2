-- The encoder over a list of calls: its fields are the diagonal of its rows. Assumes nothing.
use mathlib.Core.Path.{◌≡◌, refl, sym, ◌∙◌, ap, subst}
use mathlib.Core.Bool.{true, false, false≢true}
use mathlib.Core.List.{List, [], ◌∷◌, ◌++◌, map}
use Prim.Native.Nat.{ℕ, zero, suc, ◌+◌, ◌-◌, ◌^◌, ◌≤◌, ◌<◌}
use native.Mathlib.Decide.{dec_lt}
use native.Mathlib.Nat.{zero-add}
use native.Mathlib.Omega.{arith}
use lib.ListN.{get_or, length}
use Rattle.std.specs.Prelude.{Result, Ok, Err}
use Rattle.bits.specs.declared.Refusal.{Refusal}
use Rattle.bits.specs.Arguments.{Arguments, first_refusal, below_of}
use Rattle.bits.specs.Bits.{all_below}
use Rattle.bits.proofs.Below.{below_head, below_tail}
use Rattle.bits.proofs.Ring.{Holds, holds_next}
use Rattle.sacch_interleaver.proofs.Diagonal.{diagonal, field_of_lem}
use Rattle.sacch_interleaver.proofs.Rings.{after, after_start, after_then}
use Rattle.sacch_encoder.specs.Words.{coded_row, memory_after}
use Rattle.sacch_encoder.specs.Encoder.{encoder_state, encoded, field_now, encoded_all, fields_from, sending, Sent, encode_bits_of, encode_word_of}
use Rattle.sacch_encoder.specs.declared.SacchEncoder.{SacchEncoder}
use Rattle.sacch_encoder.proofs.Rows.{row_below}
use Rattle.sacch.specs.Calls.{EncoderCall, word, bits, Given, Words, no_words, sent, refused_call, is_refused, one_field, fields_in, called, fields_sent}
use Rattle.sacch.specs.Listening.{rows_from, sixes_for, sixes_for_all, after_word}
use Rattle.sacch.proofs.Fitting.{FittingEncoder, encoder_fit, encoded_fits, all_fit, call_passed, call_refused}

-- the memory after sixes
unfoldable pub memory_from : ℕ → List ℕ → ℕ
memory_from memory [] = memory
memory_from memory (six ∷ sixes) = memory_from (memory_after memory six) sixes

memory_all : (sixes : List ℕ) (e : SacchEncoder) → (encoded_all e sixes).memory ≡ memory_from e.memory sixes
unfolding encoded_all encoded memory_from
memory_all [] e = refl
memory_all (six ∷ sixes) e = memory_all sixes (encoded e six)

-- ---- one call
module _ (dvcc : ℕ) (g : Given) {e : SacchEncoder} (f : FittingEncoder e) where
  pub word_sent_lem : g.message < 2 ^ 48
      → called e (word dvcc g) ≡ record { answer = Ok (fields_from e (sixes_for dvcc g)); encoder = encoded_all e (sixes_for dvcc g) }
  unfolding encode_word_of
  word_sent_lem h =
      ap (λ (l : Arguments). sending l e (encoded_all e (sixes_for dvcc g)) (fields_from e (sixes_for dvcc g)))
      (call_passed (encoder_fit f) (2 ^ 48) g.message h)

  word_refused : 2 ^ 48 ≤ g.message → is_refused (called e (word dvcc g)).answer ≡ true
  unfolding encode_word_of
  word_refused h =
      ap (λ (l : Arguments). is_refused (sending l e (encoded_all e (sixes_for dvcc g)) (fields_from e (sixes_for dvcc g))).answer)
      (call_refused (encoder_fit f) (2 ^ 48) g.message h)

  -- refused exactly where the message has more than 48 bits
  pub word-taken : is_refused (called e (word dvcc g)).answer ≡ false → g.message < 2 ^ 48
  word-taken n = elim (dec_lt g.message (2 ^ 48)) [
    | yes h ↦ h
    | no h ↦ absurd (false≢true (sym n ∙ word_refused (omega arith)))
  ]

  -- the memory that it leaves
  pub memory_after-word : g.message < 2 ^ 48 → (after_word dvcc e g).memory ≡ memory_from e.memory (sixes_for dvcc g)
  memory_after-word h = ap (λ (s : Sent (List ℕ)). s.encoder.memory) (word_sent_lem h) ∙ memory_all (sixes_for dvcc g) e

  pub word_fits : g.message < 2 ^ 48 → FittingEncoder (after_word dvcc e g)
  word_fits h = subst (λ (s : Sent (List ℕ)). FittingEncoder s.encoder) (sym (word_sent_lem h)) (all_fit (sixes_for dvcc g) f)

-- a refused one leaves the encoder
sending_leaves : {A : Type 0} (l : Arguments) (e e' : SacchEncoder) (made : A) → is_refused (sending l e e' made).answer ≡ true → (sending l e e' made).encoder ≡ e
sending_leaves (Err why) e e' made r = refl
sending_leaves (Ok tt) e e' made r = absurd (false≢true r)

-- that the one field of an answer is refused is that the answer is
one_refused : (answer : Result ℕ Refusal) → is_refused (one_field answer) ≡ is_refused answer
one_refused (Ok field) = refl
one_refused (Err why) = refl

pub refused_leaves : (e : SacchEncoder) (call : EncoderCall) → is_refused (called e call).answer ≡ true → (called e call).encoder ≡ e
unfolding encode_word_of encode_bits_of
refused_leaves e (word dvcc g) r =
    sending_leaves (first_refusal (encoder_state e) (below_of (2 ^ 48) g.message)) e (encoded_all e (sixes_for dvcc g)) (fields_from e (sixes_for dvcc g)) r
refused_leaves e (bits six) r =
    sending_leaves (first_refusal (encoder_state e) (below_of 64 six)) e (encoded e six) (field_now (encoded e six)) (sym (one_refused (encode_bits_of e six).answer) ∙ r)

-- ---- a list of calls
fields_append : (sixes others : List ℕ) (e : SacchEncoder) → fields_from e (sixes ++ others) ≡ fields_from e sixes ++ fields_from (encoded_all e sixes) others
unfolding fields_from encoded_all
fields_append [] others e = refl
fields_append (six ∷ sixes) others e = ap (◌∷◌ (field_now (encoded e six))) (fields_append sixes others (encoded e six))

refused_adds : (answer : Result (List ℕ) Refusal) → is_refused answer ≡ true → fields_in answer ≡ []
refused_adds (Ok fields) r = absurd (false≢true r)
refused_adds (Err why) r = refl

pub fields_sent_lem : (dvcc : ℕ) {e : SacchEncoder} {calls : List EncoderCall} {given : List Given} → Words dvcc e calls given → FittingEncoder e
    → fields_sent e calls ≡ fields_from e (sixes_for_all dvcc given)
unfolding fields_sent fields_from sixes_for_all
fields_sent_lem dvcc no_words f = refl
fields_sent_lem dvcc (sent {e} {calls} {given} g n words) f =
    let h : g.message < 2 ^ 48 = word-taken dvcc g f n in
    ap (λ (l : List ℕ). fields_in (called e (word dvcc g)).answer ++ l) (fields_sent_lem dvcc words (word_fits dvcc g f h))
    ∙ ap (λ (s : Sent (List ℕ)). fields_in s.answer ++ fields_from s.encoder (sixes_for_all dvcc given)) (word_sent_lem dvcc g f h)
    ∙ sym (fields_append (sixes_for dvcc g) (sixes_for_all dvcc given) e)
fields_sent_lem dvcc (refused_call {e} {calls} {given} call r words) f =
    let left : (called e call).encoder ≡ e = refused_leaves e call r in
    ap (λ (l : List ℕ). l ++ fields_sent (called e call).encoder calls) (refused_adds (called e call).answer r)
    ∙ fields_sent_lem dvcc words (subst FittingEncoder (sym left) f) ∙ ap (λ (d : SacchEncoder). fields_from d (sixes_for_all dvcc given)) left

abbrev pub message_given : Given → ℕ
message_given g = g.message

-- the calls of words, one after the other
abbrev pub word_calls : ℕ → List Given → List EncoderCall
word_calls dvcc [] = []
word_calls dvcc (g ∷ given) = word dvcc g ∷ word_calls dvcc given

-- none is refused where each message has 48 bits
pub words_sent : (dvcc : ℕ) (given : List Given) {e : SacchEncoder} → FittingEncoder e → all_below (2 ^ 48) (map message_given given) ≡ true
    → Words dvcc e (word_calls dvcc given) given
words_sent dvcc [] f h = no_words
words_sent dvcc (g ∷ given) f h =
    let m : g.message < 2 ^ 48 = below_head (2 ^ 48) g.message _ h in
    sent g (ap (λ (s : Sent (List ℕ)). is_refused s.answer) (word_sent_lem dvcc g f m)) (words_sent dvcc given (word_fits dvcc g f m) (below_tail (2 ^ 48) g.message _ h))

-- ---- the fields of sixes
pub fields_length : (sixes : List ℕ) (e : SacchEncoder) → length (fields_from e sixes) ≡ length sixes
unfolding fields_from
fields_length [] e = refl
fields_length (six ∷ sixes) e = ap suc (fields_length sixes (encoded e six))

encoded_holds : (rows : ℕ → ℕ) (e : SacchEncoder) (six n : ℕ) → FittingEncoder e → Holds 12 e.rows e.cursor rows n
    → rows (n + 12) ≡ coded_row e.memory six → Holds 12 (encoded e six).rows (encoded e six).cursor rows (suc n)
unfolding encoded
encoded_holds rows e six n f h r = holds_next 12 e.rows e.cursor rows n (coded_row e.memory six) f.rows_length f.fit.cursor r h

-- where the encoder holds the rows n to n + 11 of a stream that goes on with those of the sixes
diagonal_from : (rows : ℕ → ℕ) (sixes : List ℕ) (e : SacchEncoder) (n : ℕ) → FittingEncoder e → Holds 12 e.rows e.cursor rows n
    → ((i : ℕ) → i < length sixes → rows (n + i + 12) ≡ get_or (rows_from e.memory sixes) i 0)
    → (i : ℕ) → i < length sixes → get_or (fields_from e sixes) i 0 ≡ diagonal rows (n + suc i)
unfolding fields_from rows_from encoded
diagonal_from rows [] e n f h coming i hi = absurd (omega arith)
diagonal_from rows (six ∷ sixes) e n f h coming zero hi =
    let here : n + 12 ≡ n + 0 + 12 = omega arith in
    let next : suc n ≡ n + 1 = omega arith in
    field_of_lem _ _ rows (suc n) (encoded_holds rows e six n f h (ap rows here ∙ coming 0 (omega arith))) ∙ ap (diagonal rows) next
diagonal_from rows (six ∷ sixes) e n f h coming (suc i) hi =
    let here : n + 12 ≡ n + 0 + 12 = omega arith in
    let next : suc n + suc i ≡ n + suc (suc i) = omega arith in
    diagonal_from rows sixes (encoded e six) (suc n) (encoded_fits six f) (encoded_holds rows e six n f h (ap rows here ∙ coming 0 (omega arith)))
    (λ k hk. let later : suc n + k + 12 ≡ n + suc k + 12 = omega arith in ap rows later ∙ coming (suc k) (omega arith)) i (omega arith)
    ∙ ap (diagonal rows) next

-- the rows on air: the encoder's twelve old ones, then those of the sixes
abbrev pub on_air : SacchEncoder → List ℕ → ℕ → ℕ
on_air e sixes = after 12 e.rows e.cursor (λ (i : ℕ). get_or (rows_from e.memory sixes) i 0)

pub on_air_then : (e : SacchEncoder) (sixes : List ℕ) (i k : ℕ) → k ≡ i + 12 → on_air e sixes k ≡ get_or (rows_from e.memory sixes) i 0
on_air_then e sixes i k h = after_then 12 e.rows e.cursor (λ i. get_or (rows_from e.memory sixes) i 0) i k h

pub fields_diagonal : (e : SacchEncoder) (sixes : List ℕ) → FittingEncoder e → (i : ℕ) → i < length sixes
    → get_or (fields_from e sixes) i 0 ≡ diagonal (on_air e sixes) (suc i)
fields_diagonal e sixes f i h =
    diagonal_from (on_air e sixes) sixes e 0 f (after_start 12 e.rows e.cursor (λ i. get_or (rows_from e.memory sixes) i 0))
    (λ k hk. on_air_then e sixes k (0 + k + 12) (omega arith)) i h
    ∙ ap (diagonal (on_air e sixes)) (zero-add (suc i))

rows_below : (sixes : List ℕ) (s i : ℕ) → get_or (rows_from s sixes) i 0 < 4096
unfolding rows_from
rows_below [] s i = omega arith
rows_below (six ∷ sixes) s zero = row_below s six
rows_below (six ∷ sixes) s (suc i) = rows_below sixes (memory_after s six) i

pub on_air_below : (e : SacchEncoder) (sixes : List ℕ) (k : ℕ) → 12 ≤ k → on_air e sixes k < 4096
on_air_below e sixes k h =
    let r : on_air e sixes k ≡ get_or (rows_from e.memory sixes) (k - 12) 0 = on_air_then e sixes (k - 12) k (omega arith) in
    let b : get_or (rows_from e.memory sixes) (k - 12) 0 < 4096 = rows_below sixes e.memory (k - 12) in
    omega arith
