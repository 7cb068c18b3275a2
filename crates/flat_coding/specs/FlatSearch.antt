-- What the bare searches answer: a number of document 01 and zeros, or 0 and the result.
use Rattle.std.specs.Prelude.{◌≡◌, false, cond, List, ℕ, ◌/◌, ◌%◌, eqb, ltb, length, Ok, Err}
use Rattle.bits.specs.Refusals.{number_of, expected_of, actual_of}
use Rattle.bits.specs.Arguments.{Arguments, first_refusal, exact_of, binary_of}
use Rattle.bits.specs.declared.Refusal.{Refusal}
use Rattle.trellis.specs.declared.Outcome.{Outcome}
use Rattle.flat_coding.specs.declared.bare_search.Search.{Search}

-- ---- a search
-- Length unless a length is even and from 10 to 260: 5 to 130 pairs
unfoldable pub pair_arguments : ℕ → Arguments
pair_arguments n = cond (ltb n 10) (exact_of 260 n) (cond (ltb 260 n) (exact_of 260 n) (cond (eqb (n % 2) 1) (exact_of 260 n) (Ok tt)))

-- what was received, then a bit of the word for each pair, then the symbols
abbrev pub search_arguments : List ℕ → ℕ → Arguments
search_arguments coded steps = first_refusal (pair_arguments (length coded)) (first_refusal (exact_of (length coded / 2) steps) (binary_of coded))

abbrev pub no_search : Refusal → Search
no_search why = record { refusal = number_of why; expected = expected_of why; actual = actual_of why; metric = 0; tie = false }

abbrev pub found_search : Outcome → Search
found_search found = record { refusal = 0; expected = 0; actual = 0; metric = found.metric; tie = found.tie }

-- the answer of a search, of which Finds says what it finds; a refused call writes nothing
pub record SearchAnswer (Finds : List ℕ → Outcome → Type 0) (coded word₀ word : List ℕ) (r : Search) : Type 0 where
  pub not_searched : (why : Refusal) → search_arguments coded (length word₀) ≡ Err why → (r ≡ no_search why) × (word ≡ word₀)
  pub searched : search_arguments coded (length word₀) ≡ Ok tt → (r.refusal ≡ 0) × (r.expected ≡ 0) × (r.actual ≡ 0) × Finds word (record { metric = r.metric; tie = r.tie })
