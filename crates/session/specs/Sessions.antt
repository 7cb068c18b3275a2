-- A session as a scan of the input so far, in the terms of Scanning.antt: where it starts, what holds of its numbers, and what follows the input.
use Rattle.std.specs.Prelude.{List, [], ◌++◌, ℕ, ◌+◌, ◌*◌, ◌≡◌, ◌≤◌, length, get_or}
use Rattle.session.specs.Totals.{closing}
use Rattle.session.specs.declared.totals.Tally.{Tally}
use Rattle.session.specs.Output.{fresh}
use Rattle.session.specs.Scanning.{Scan, closed, close_said}

-- the scan of no input
unfoldable pub at_start : Scan
at_start = record { left = 1000000; state = fresh; part = [] }

-- ---- totals that fit their numbers: no more words than lines read
pub record WithinBounds (t : Tally) (left : ℕ) (counts : List ℕ) : Type 0 where
  pub words : t.words + left ≤ 1000000
  pub corrected : t.corrected ≤ 65535 * t.words
  pub coded : t.coded ≤ 260 * t.words
  pub codes : length counts ≡ 256
  pub each : (d : ℕ) → get_or counts d 0 ≤ t.words

-- and a line so far that fits its place: so in every session
pub record Fits (t : Tally) (left : ℕ) (counts line : List ℕ) : Type 0 where
  pub bounds : WithinBounds t left counts
  pub within : length line ≤ 137

-- what is written after the input
unfoldable pub end_text : Scan → List ℕ
end_text c = close_said c ++ closing (closed c).tally (closed c).counts
