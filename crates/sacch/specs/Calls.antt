-- Lists of calls of an encoder and of a receiver: each call gets the state that the last one returned. A call that is refused adds nothing.
use Rattle.std.specs.Prelude.{◌≡◌, Bool, true, false, cond, List, [], ◌∷◌, ◌++◌, ℕ, Result, Ok, Err}
use Rattle.bits.specs.declared.Refusal.{Refusal}
use Rattle.sacch_encoder.specs.Encoder.{Sent, encode_bits_of, encode_word_of}
use Rattle.sacch_encoder.specs.declared.SacchEncoder.{SacchEncoder}
use Rattle.sacch_receiver.specs.Receiver.{Moved, push_of}
use Rattle.sacch_receiver.specs.declared.ReceiveOutcome.{ReceiveOutcome}
use Rattle.sacch_receiver.specs.declared.SacchReceiver.{SacchReceiver}

-- whether an answer is a refusal; a rejection is none
abbrev pub is_refused : {A : Type 0} → Result A Refusal → Bool
is_refused (Ok x) = false
is_refused (Err why) = true

-- ---- the encoder
-- a word as it is given to the encoder
pub record Given : Type 0 where
  pub continuation : Bool
  pub message : ℕ

-- a call of `encode_word` under a colour code, or of `encode_bits`
pub data EncoderCall : Type 0 where
  word : ℕ → Given → EncoderCall
  bits : ℕ → EncoderCall

-- the fields of an answer: the one of six bits, and those of a call; a refused one adds none
abbrev pub one_field : Result ℕ Refusal → Result (List ℕ) Refusal
one_field (Ok field) = Ok (field ∷ [])
one_field (Err why) = Err why

abbrev pub fields_in : Result (List ℕ) Refusal → List ℕ
fields_in (Ok fields) = fields
fields_in (Err why) = []

-- what a call answers, and the encoder after it
abbrev pub called : SacchEncoder → EncoderCall → Sent (List ℕ)
called e (word dvcc g) = encode_word_of e g.continuation g.message dvcc
called e (bits six) = record { answer = one_field (encode_bits_of e six).answer; encoder = (encode_bits_of e six).encoder }

-- the fields that a list of calls brings
unfoldable pub fields_sent : SacchEncoder → List EncoderCall → List ℕ
fields_sent e [] = []
fields_sent e (call ∷ calls) = fields_in (called e call).answer ++ fields_sent (called e call).encoder calls

-- Of the calls of an encoder, those not refused are the words `given`, all under one colour code; a refused one may be any.
pub data Words (dvcc : ℕ) : SacchEncoder → List EncoderCall → List Given → Type 0 where
  no_words : {e : SacchEncoder} → Words dvcc e [] []
  sent : {e : SacchEncoder} {calls : List EncoderCall} {given : List Given} (g : Given) → is_refused (called e (word dvcc g)).answer ≡ false
      → Words dvcc (called e (word dvcc g)).encoder calls given → Words dvcc e (word dvcc g ∷ calls) (g ∷ given)
  refused_call : {e : SacchEncoder} {calls : List EncoderCall} {given : List Given} (call : EncoderCall) → is_refused (called e call).answer ≡ true
      → Words dvcc (called e call).encoder calls given → Words dvcc e (call ∷ calls) given

-- ---- the receiver
-- a push of a field under a colour code
pub record Push : Type 0 where
  pub field : ℕ
  pub dvcc : ℕ

-- what it answers, and the receiver after it
abbrev pub pushed_by : SacchReceiver → Push → Moved ReceiveOutcome
pushed_by r p = push_of r p.field p.dvcc

-- the answers to a list of pushes; a refused one is not counted
unfoldable pub answers : SacchReceiver → List Push → List (Result ReceiveOutcome Refusal)
answers r [] = []
answers r (p ∷ pushes) =
    cond (is_refused (pushed_by r p).answer) (answers (pushed_by r p).receiver pushes) ((pushed_by r p).answer ∷ answers (pushed_by r p).receiver pushes)

-- Of the pushes to a receiver, those not refused are `fields`, all under one colour code; a refused one may be any.
pub data Fields (dvcc : ℕ) : SacchReceiver → List Push → List ℕ → Type 0 where
  no_fields : {r : SacchReceiver} → Fields dvcc r [] []
  pushed : {r : SacchReceiver} {pushes : List Push} {fields : List ℕ} (field : ℕ) → is_refused (push_of r field dvcc).answer ≡ false
      → Fields dvcc (push_of r field dvcc).receiver pushes fields → Fields dvcc r (record { field = field; dvcc = dvcc } ∷ pushes) (field ∷ fields)
  refused_push : {r : SacchReceiver} {pushes : List Push} {fields : List ℕ} (p : Push) → is_refused (pushed_by r p).answer ≡ true
      → Fields dvcc (pushed_by r p).receiver pushes fields → Fields dvcc r (p ∷ pushes) fields
