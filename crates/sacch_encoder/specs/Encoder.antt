-- The encoder's calls on values.
use Rattle.std.specs.Prelude.{Bool, ◌&&◌, List, [], ◌∷◌, ℕ, ◌+◌, ◌%◌, ◌^◌, ltb, set, replicate, Result, Ok, Err}
use Rattle.bits.specs.Arguments.{Arguments, first_refusal, below_of}
use Rattle.bits.specs.declared.Refusal.{Refusal}
use Rattle.sacch_interleaver.specs.Deinterleaver.{state_unless}
use Rattle.sacch_interleaver.specs.Diagonal.{all_twelve, field_of}
use Rattle.sacch_encoder.specs.Words.{coded_row, memory_after, sixes_of, word_of}
use Rattle.sacch_encoder.specs.declared.SacchEncoder.{SacchEncoder}

-- ---- the state
-- memory 0, no row to send
unfoldable pub fresh_encoder : SacchEncoder
fresh_encoder = record { memory = 0; rows = replicate 12 0; cursor = 0 }

-- document 01, 'Numbers from the state': the states that refusal 8 lets pass
unfoldable pub encoder_fits : SacchEncoder → Bool
encoder_fits e = ltb e.memory 32 && ltb e.cursor 12 && all_twelve e.rows

abbrev pub encoder_state : SacchEncoder → Arguments
encoder_state e = state_unless (encoder_fits e)

-- ---- six bits
-- their row takes the place of the oldest
unfoldable pub encoded : SacchEncoder → ℕ → SacchEncoder
encoded e six = record {
  memory = memory_after e.memory six;
  rows = set e.rows e.cursor (coded_row e.memory six);
  cursor = (e.cursor + 1) % 12;
}

-- the field of the newest row's slot
abbrev pub field_now : SacchEncoder → ℕ
field_now e = field_of e.rows e.cursor

-- ---- a list of sixes
unfoldable pub encoded_all : SacchEncoder → List ℕ → SacchEncoder
encoded_all e [] = e
encoded_all e (six ∷ sixes) = encoded_all (encoded e six) sixes

unfoldable pub fields_from : SacchEncoder → List ℕ → List ℕ
fields_from e [] = []
fields_from e (six ∷ sixes) = field_now (encoded e six) ∷ fields_from (encoded e six) sixes

-- ---- the calls: what they answer, and the encoder after them
pub record Sent (A : Type 0) : Type 0 where
  pub answer : Result A Refusal
  pub encoder : SacchEncoder

-- a refused call leaves the encoder
abbrev pub sending : {A : Type 0} → Arguments → SacchEncoder → SacchEncoder → A → Sent A
sending (Err why) e e' made = record { answer = Err why; encoder = e }
sending (Ok passed) e e' made = record { answer = Ok made; encoder = e' }

-- State, then Symbol where the six bits are above 63
unfoldable pub encode_bits_of : SacchEncoder → ℕ → Sent ℕ
encode_bits_of e six = sending (first_refusal (encoder_state e) (below_of 64 six)) e (encoded e six) (field_now (encoded e six))

-- State, then Symbol where the message has more than 48 bits
unfoldable pub encode_word_of : SacchEncoder → Bool → ℕ → ℕ → Sent (List ℕ)
encode_word_of e continuation message dvcc =
    sending (first_refusal (encoder_state e) (below_of (2 ^ 48) message)) e
    (encoded_all e (sixes_of (word_of continuation message dvcc))) (fields_from e (sixes_of (word_of continuation message dvcc)))
