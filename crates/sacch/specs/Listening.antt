-- The listening rule (document 01, demand 3): one claim over all lists of calls of an encoder and a receiver.
use Rattle.std.specs.Prelude.{◌≡◌, ◌≢◌, true, false, List, [], ◌∷◌, ◌++◌, ℕ, zero, suc, ◌+◌, ◌-◌, ◌/◌, ◌%◌, ◌≤◌, ◌<◌, get_or, length, take, drop, Result, Ok}
use Rattle.bits.specs.declared.Refusal.{Refusal}
use Rattle.sacch_encoder.specs.Words.{coded_row, memory_after, sixes_of, word_of}
use Rattle.sacch_encoder.specs.Encoder.{encoder_fits}
use Rattle.sacch_encoder.specs.declared.SacchEncoder.{SacchEncoder}
use Rattle.sacch_decoder.specs.declared.SacchWord.{SacchWord}
use Rattle.sacch_receiver.specs.Receiver.{receiver_fits}
use Rattle.sacch_receiver.specs.Stored.{decode_rows}
use Rattle.sacch_receiver.specs.declared.ReceiveOutcome.{ReceiveOutcome}
use Rattle.sacch_receiver.specs.declared.ReceiveOutcome.TheVariants as outcome
use Rattle.sacch_receiver.specs.declared.SacchReceiver.{SacchReceiver}
use Rattle.sacch.specs.Calls.{EncoderCall, word, Given, Words, called, fields_sent, Push, Fields, answers}

-- ---- what the encoder sends
-- the rows of sixes from a memory
unfoldable pub rows_from : ℕ → List ℕ → List ℕ
rows_from memory [] = []
rows_from memory (six ∷ sixes) = coded_row memory six ∷ rows_from (memory_after memory six) sixes

-- the sixes of a word
abbrev pub sixes_for : ℕ → Given → List ℕ
sixes_for dvcc g = sixes_of (word_of g.continuation g.message dvcc)

-- of words one after the other
unfoldable pub sixes_for_all : ℕ → List Given → List ℕ
sixes_for_all dvcc [] = []
sixes_for_all dvcc (g ∷ given) = sixes_for dvcc g ++ sixes_for_all dvcc given

-- the encoder after a word
abbrev pub after_word : ℕ → SacchEncoder → Given → SacchEncoder
after_word dvcc e g = (called e (word dvcc g)).encoder

-- The word given k-th (from 0), as a receiver that mends nothing answers it: its ending memory is the encoder's after it.
-- There is one where k is below the number of words.
unfoldable pub word_sent : ℕ → SacchEncoder → List Given → ℕ → SacchWord
word_sent dvcc e [] k = record { continuation = false; message = 0; corrected = 0; ending = 0 }
word_sent dvcc e (g ∷ given) zero = record { continuation = g.continuation; message = g.message; corrected = 0; ending = (after_word dvcc e g).memory }
word_sent dvcc e (g ∷ given) (suc k) = word_sent dvcc (after_word dvcc e g) given k

-- ---- the premises
-- One encoder, at any state e that 8 lets pass, gets `calls`, of which the words `given` are not refused. From its a-th field on (from 1), its fields
-- go to a receiver at any state r that 8 lets pass by `pushes`, of which `fields` are not refused.
pub record Listened (dvcc a : ℕ) (e : SacchEncoder) (calls : List EncoderCall) (given : List Given) (r : SacchReceiver) (pushes : List Push) (fields : List ℕ) : Type 0 where
  pub words : Words dvcc e calls given
  pub from_one : 1 ≤ a
  pub encoder_fit : encoder_fits e ≡ true
  pub encoder_rows : length e.rows ≡ 12
  pub receiver_fit : receiver_fits r ≡ true
  pub receiver_fields : length r.deinterleaver.fields ≡ 12
  pub receiver_rows : length r.rows ≡ 11
  pub pushed : Fields dvcc r pushes fields
  pub in_order : take (length fields) (drop (a - 1) (fields_sent e calls)) ≡ fields

-- rows m to m + 10, counted from 1 at the first word
abbrev pub heard_rows : ℕ → SacchEncoder → List Given → ℕ → List ℕ
heard_rows dvcc e given m = take 11 (drop (m - 1) (rows_from e.memory (sixes_for_all dvcc given)))

-- row m begins a word
abbrev pub Begins : ℕ → Type 0
Begins m = m % 11 ≡ 1

-- With each field n from 22, rows a + n - 22 to a + n - 12 are heard. Off a boundary they decode to no word.
abbrev pub NoFalseWord : ℕ → ℕ → SacchEncoder → List Given → ℕ → Type 0
NoFalseWord dvcc a e given N =
    (n : ℕ) → 22 ≤ n → n ≤ N → (Begins (a + n - 22) → ⊥) → (w : SacchWord) → decode_rows (heard_rows dvcc e given (a + n - 22)) dvcc ≢ Ok w

-- ---- the promise
-- the answer to the n-th field, counted from 1
abbrev pub answer : SacchReceiver → List Push → ℕ → Result ReceiveOutcome Refusal
answer r pushes n = get_or (answers r pushes) (n - 1) (Ok outcome.Pending)

-- of N fields
pub record Promised (dvcc a : ℕ) (e : SacchEncoder) (given : List Given) (r : SacchReceiver) (pushes : List Push) (N : ℕ) : Type 0 where
  pub counts : length (answers r pushes) ≡ N
  -- a word comes only where row a + n - 22 begins one, and it is that word
  pub only_sent : (n : ℕ) → 22 ≤ n → n ≤ N → (w : SacchWord) → answer r pushes n ≡ Ok (outcome.Word w)
      → Begins (a + n - 22) × ((a + n - 22) / 11 < length given) × (w ≡ word_sent dvcc e given ((a + n - 22) / 11))
  -- one of the fields 22 to 42 gives one
  pub by_42 : 42 ≤ N → (n : ℕ) × (22 ≤ n) × (n ≤ 42) × ((w : SacchWord) × (answer r pushes n ≡ Ok (outcome.Word w)))
  -- after a field f that gives one, f + 11, f + 22 and so on give the next words, and every other one Pending
  pub follows : (f : ℕ) → 22 ≤ f → f ≤ N → (w : SacchWord) → answer r pushes f ≡ Ok (outcome.Word w) → (k : ℕ) → 0 < k → f + k ≤ N
      → (k % 11 ≡ 0 → ((a + (f + k) - 22) / 11 < length given) × (answer r pushes (f + k) ≡ Ok (outcome.Word (word_sent dvcc e given ((a + (f + k) - 22) / 11)))))
      × (k % 11 ≢ 0 → answer r pushes (f + k) ≡ Ok outcome.Pending)

abbrev pub ListeningRule : Type 0
ListeningRule =
    (dvcc a : ℕ) (e : SacchEncoder) (calls : List EncoderCall) (given : List Given) (r : SacchReceiver) (pushes : List Push) (fields : List ℕ)
    → Listened dvcc a e calls given r pushes fields → NoFalseWord dvcc a e given (length fields) → Promised dvcc a e given r pushes (length fields)
