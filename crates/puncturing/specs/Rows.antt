-- The rows of branch metrics and the symbols of the search: a row for each pair (viterbi/specs/Rows.antt), and one of zeros for a step that sends nothing.
use Rattle.std.specs.Prelude.{◌≡◌, cond, List, [], ℕ, ◌-◌, ◌/◌, ◌%◌, ◌<◌, eqb, length, get_or}
use Rattle.viterbi.specs.Rows.{PairsTo, pair_of}

pub record StepRows (rows : List (List ℕ)) : Type 0 where
  pub five : length rows ≡ 5
  pub pairs : PairsTo rows 4
  pub free : (place : ℕ) → place < 64 → get_or (get_or rows 4 []) place 0 ≡ 0

-- what the step k receives: of each 27 steps the last sends nothing, so that k - k / 27 steps before it sent a pair
abbrev pub symbol_of : List ℕ → ℕ → ℕ
symbol_of coded k = cond (eqb (k % 27) 26) 4 (pair_of coded (k - k / 27))

abbrev pub SymbolsTo : List ℕ → List ℕ → ℕ → Type 0
SymbolsTo coded symbols n = (k : ℕ) → k < n → get_or symbols k 0 ≡ symbol_of coded k
