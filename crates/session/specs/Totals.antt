-- The totals of accepted words, and the lines that close the output.
use Rattle.std.specs.Prelude.{cond, List, [], ◌∷◌, ◌++◌, ℕ, zero, suc, ◌+◌, ◌*◌, ◌/◌, ◌≤◌, eqb, get_or, set}
use Rattle.lines.specs.Printing.{total_text, code_text}
use Rattle.lines.specs.declared.reply.Reply.{Reply}
use Rattle.lines.specs.declared.reply.Reply.TheVariants as reply
use Rattle.session.specs.declared.totals.Tally.{Tally}

unfoldable pub nothing_added : Tally
nothing_added = record { words = 0; corrected = 0; coded = 0 }

unfoldable pub one_word : ℕ → ℕ → Tally
one_word corrected coded = record { words = 1; corrected = corrected; coded = coded }

-- what an answer adds: a word, its corrected bits, and its coded bits, 132 for a `W` and 260 for a `G`
unfoldable pub added_by : Reply → Tally
added_by reply.Nothing = nothing_added
added_by reply.Pending = nothing_added
added_by (reply.Refused why) = nothing_added
added_by (reply.SacchWord continuation message corrected ending) = one_word corrected 132
added_by reply.Discontinuous = nothing_added
added_by (reply.FacchWord continuation message corrected observed) = one_word corrected 260

unfoldable pub summed : Tally → Tally → Tally
summed a b = record { words = a.words + b.words; corrected = a.corrected + b.corrected; coded = a.coded + b.coded }

-- so many words more under a colour code
unfoldable pub counted : List ℕ → ℕ → ℕ → List ℕ
counted counts dvcc words = set counts dvcc (get_or counts dvcc 0 + words)

-- the bounds of what one answer adds
pub record OneAnswer (t : Tally) : Type 0 where
  pub one : t.words ≤ 1
  pub corrected : t.corrected ≤ 65535 * t.words
  pub coded : t.coded ≤ 260 * t.words

-- ---- the closing lines
-- corrected bits times 1000 divided by coded bits, rounded down; 0 without words
unfoldable pub rate_of : Tally → ℕ
rate_of t = cond (eqb t.coded 0) 0 (t.corrected * 1000 / t.coded)

-- `T w r`
unfoldable pub total_line : Tally → List ℕ
total_line t = total_text t.words (rate_of t)

-- how many words a code has, by the counts of a run
abbrev pub count_of : List ℕ → ℕ → ℕ
count_of counts = λ (d : ℕ). get_or counts d 0

-- the codes below n that have words, from the lowest to the highest
unfoldable pub lowest_first : ℕ → (ℕ → ℕ) → List ℕ
lowest_first zero words = []
lowest_first (suc d) words = lowest_first d words ++ cond (eqb (words d) 0) [] (d ∷ [])

-- `C dd n` for each of the codes, as they stand, n being how many words dd has
unfoldable pub code_texts : (ℕ → ℕ) → List ℕ → List ℕ
code_texts words [] = []
code_texts words (d ∷ codes) = code_text d (words d) ++ code_texts words codes

-- the `C` lines: one for each colour code from 0 to 255 that has words, ascending (request 7 of document 02; CodeLines.antt says it of an input)
unfoldable pub code_lines : (ℕ → ℕ) → List ℕ
code_lines words = code_texts words (lowest_first 256 words)

-- `T w r`, then the `C` lines
unfoldable pub closing : Tally → List ℕ → List ℕ
closing t counts = total_line t ++ code_lines (count_of counts)

-- the line of a code, where it has words
unfoldable pub code_line : ℕ → ℕ → List ℕ
code_line d words = cond (eqb words 0) [] (code_text d words)
