-- The program `frames` (document 01, 'The line program `frames`'): what it writes for an input of any bytes is `output`, the last definition here.
-- What a line is answered is in Replies.antt, how answers are written in lines/specs/Printing.antt, the totals and the closing lines in Totals.antt, the order of the `C` lines in CodeLines.antt.
use Rattle.std.specs.Prelude.{cond, List, [], ◌∷◌, ◌++◌, ℕ, eqb, length, replicate, take}
use Rattle.lines.specs.Printing.{reply_text}
use Rattle.sacch_receiver.specs.Receiver.{fresh_receiver}
use Rattle.sacch_receiver.specs.declared.SacchReceiver.{SacchReceiver}
use Rattle.session.specs.declared.totals.Tally.{Tally}
use Rattle.session.specs.Replies.{reply_to}
use Rattle.session.specs.Totals.{added_by, closing, counted, nothing_added, summed}

-- ---- the lines of an input
-- each ends at LF (10), `part` being the start of the first; a last line without LF counts if it is not empty
unfoldable pub lines_from : List ℕ → List ℕ → List (List ℕ)
lines_from part [] = cond (eqb (length part) 0) [] (part ∷ [])
lines_from part (b ∷ rest) = cond (eqb b 10) (part ∷ lines_from [] rest) (lines_from (part ++ (b ∷ [])) rest)

unfoldable pub lines_of : List ℕ → List (List ℕ)
lines_of input = lines_from [] input

-- ---- many lines
-- all that a line changes: the receiver, the totals, and the words of each of the 256 colour codes
pub record State : Type 0 where
  pub receiver : SacchReceiver
  pub tally : Tally
  pub counts : List ℕ

unfoldable pub fresh : State
fresh = record { receiver = fresh_receiver; tally = nothing_added; counts = replicate 256 0 }

unfoldable pub next : State → List ℕ → State
next s l =
    record {
      receiver = (reply_to s.receiver l).receiver;
      tally = summed s.tally (added_by (reply_to s.receiver l).reply);
      counts = counted s.counts (reply_to s.receiver l).dvcc (added_by (reply_to s.receiver l).reply).words;
    }

unfoldable pub said : State → List ℕ → List ℕ
said s l = reply_text (reply_to s.receiver l).reply

-- the state after lines, and all that is written of them
unfoldable pub after : State → List (List ℕ) → State
after s [] = s
after s (l ∷ ls) = after (next s l) ls

unfoldable pub spoken : State → List (List ℕ) → List ℕ
spoken s [] = []
spoken s (l ∷ ls) = said s l ++ spoken (next s l) ls

-- ---- the output
-- at most 1,000,000 lines are read, skipped ones counted
unfoldable pub lines_read : List ℕ → List (List ℕ)
lines_read input = take 1000000 (lines_of input)

-- the state after them
unfoldable pub final_state : List ℕ → State
final_state input = after fresh (lines_read input)

unfoldable pub output : List ℕ → List ℕ
output input = spoken fresh (lines_read input) ++ closing (final_state input).tally (final_state input).counts
