-- Long and blank lines (request 12 of document 02): length goes before blankness. `LengthFirst` says it of every line in every state of a run; the law is `length_first`.
use Rattle.std.specs.Prelude.{◌≡◌, List, [], ◌∷◌, ℕ, ◌<◌, ◌≤◌, length, replicate}
use Rattle.text.specs.LineKinds.{ShortBlank}
use Rattle.session.specs.Output.{State, next, said}

-- `R 7` and LF
unfoldable pub line_refused : List ℕ
line_refused = 82 ∷ 32 ∷ 55 ∷ 10 ∷ []

-- a line writes just that text, and receiver, totals and counts stay as they are
pub record OnlyWrites (s : State) (l text : List ℕ) : Type 0 where
  pub writes : said s l ≡ text
  pub keeps : next s l ≡ s

pub record LengthFirst : Type 0 where
  -- above 136 characters a line is refused, whatever it holds
  pub long : (s : State) (l : List ℕ) → 136 < length l → OnlyWrites s l line_refused
  -- up to 136 spaces (32) are skipped
  pub spaces : (s : State) (n : ℕ) → n ≤ 136 → OnlyWrites s (replicate n 32) []
  -- every other line is answered
  pub only : (s : State) (l : List ℕ) → said s l ≡ [] → ShortBlank l
