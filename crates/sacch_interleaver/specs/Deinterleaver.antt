-- The deinterleaver's calls on values: fields go in one by one, and from the twelfth on each completes a row.
use Rattle.std.specs.Prelude.{Bool, cond, ◌&&◌, List, [], ◌∷◌, ℕ, ◌+◌, ◌-◌, ◌%◌, min, ltb, get_or, replicate, set, Option, None, Some, Result, Ok, Err}
use Rattle.bits.specs.Arguments.{Arguments, below_of, first_refusal}
use Rattle.bits.specs.Numbers.{packed}
use Rattle.bits.specs.Places.{listed}
use Rattle.bits.specs.declared.Refusal.{Refusal}
use Rattle.bits.specs.declared.Refusal.TheVariants.{State}
use Rattle.sacch_interleaver.specs.Diagonal.{all_twelve, bit_of, row_of}
use Rattle.sacch_interleaver.specs.declared.SacchDeinterleaver.{SacchDeinterleaver}

-- ---- the state
unfoldable pub fresh_deinterleaver : SacchDeinterleaver
fresh_deinterleaver = record { fields = replicate 12 0; cursor = 0; received = 0 }

-- document 01, 'Numbers from the state': the states that refusal 8 lets pass
unfoldable pub deinterleaver_fits : SacchDeinterleaver → Bool
deinterleaver_fits d = ltb d.cursor 12 && ltb d.received 13 && all_twelve d.fields

-- State unless a test of a record is passed
abbrev pub state_unless : Bool → Arguments
state_unless passed = cond passed (Ok tt) (Err State)

abbrev pub deinterleaver_state : SacchDeinterleaver → Arguments
deinterleaver_state d = state_unless (deinterleaver_fits d)

-- ---- one field
-- it takes the place of the oldest
unfoldable pub field_stored : SacchDeinterleaver → ℕ → SacchDeinterleaver
field_stored d field = record {
  fields = set d.fields d.cursor field;
  cursor = (d.cursor + 1) % 12;
  received = min 12 (d.received + 1);
}

-- with twelve received, the row that the newest completes
unfoldable pub row_found : SacchDeinterleaver → Option ℕ
row_found d = cond (ltb d.received 12) None (Some (row_of d.fields d.cursor))

-- ---- the call: what it answers, a row or nothing yet, and the deinterleaver after it
pub record Deinterleaved : Type 0 where
  pub answer : Result (Option ℕ) Refusal
  pub deinterleaver : SacchDeinterleaver

-- a field of twelve bits
abbrev pub stored_of : SacchDeinterleaver → ℕ → Deinterleaved
stored_of d field = record { answer = Ok (row_found (field_stored d field)); deinterleaver = field_stored d field }

-- State, then Symbol where the field is above 4095; both leave the deinterleaver
abbrev pub pushing_row : Arguments → SacchDeinterleaver → Deinterleaved → Deinterleaved
pushing_row (Err why) d m = record { answer = Err why; deinterleaver = d }
pushing_row (Ok passed) d m = m

unfoldable pub push_row_of : SacchDeinterleaver → ℕ → Deinterleaved
push_row_of d field = pushing_row (first_refusal (deinterleaver_state d) (below_of 4096 field)) d (stored_of d field)

-- ---- fields one after the other, counted from 1
unfoldable pub row_answers : SacchDeinterleaver → List ℕ → List (Result (Option ℕ) Refusal)
row_answers d [] = []
row_answers d (field ∷ fields) = (push_row_of d field).answer ∷ row_answers (push_row_of d field).deinterleaver fields

-- the row that field n completes: its bit j is bit j of the field 11 - j before
abbrev pub row_heard : List ℕ → ℕ → ℕ
row_heard fields n = packed (listed 12 (λ (j : ℕ). bit_of (get_or fields (n - 12 + j) 0) j))
