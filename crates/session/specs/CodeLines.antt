-- The `C` lines of an input (request 7 of document 02): one for each colour code with accepted words, by code ascending. `CodesAscending` says it of every input; the law is `codes_ascending`.
use Rattle.std.specs.Prelude.{◌≡◌, ◌≢◌, cond, ℕ, ◌+◌, ◌<◌, eqb}
use mathlib.Core.List.{List, [], ◌∷◌, ◌++◌, Memᴰ}
use Rattle.sacch_receiver.specs.Receiver.{fresh_receiver}
use Rattle.sacch_receiver.specs.declared.SacchReceiver.{SacchReceiver}
use Rattle.session.specs.Output.{final_state, fresh, lines_read, output, spoken}
use Rattle.session.specs.Replies.{Replied, reply_to}
use Rattle.session.specs.Totals.{added_by, code_texts, total_line}

-- ---- the words of a code
-- the replies to lines, one after the other
unfoldable pub replies : SacchReceiver → List (List ℕ) → List Replied
replies r [] = []
replies r (l ∷ ls) = reply_to r l ∷ replies (reply_to r l).receiver ls

-- how many lines under the code d are answered with an accepted word, `W` or `G`
unfoldable pub words_under : ℕ → List Replied → ℕ
words_under d [] = 0
words_under d (a ∷ rest) = cond (eqb a.dvcc d) (added_by a.reply).words 0 + words_under d rest

-- and how many of the lines that are read of an input
unfoldable pub words_of : List ℕ → ℕ → ℕ
words_of input = λ (d : ℕ). words_under d (replies fresh_receiver (lines_read input))

-- ---- the order of the codes
-- each is below all that follow it, so that none stands twice
abbrev pub Ascending : List ℕ → Type 0
Ascending [] = Unit {0}
Ascending (d ∷ codes) = ((e : ℕ) → Memᴰ e codes → d < e) × Ascending codes

-- all codes with words and no other, ascending
pub record CodeOrder (words : ℕ → ℕ) (codes : List ℕ) : Type 0 where
  pub ascending : Ascending codes
  pub only : (d : ℕ) → Memᴰ d codes → words d ≢ 0
  pub all : (d : ℕ) → words d ≢ 0 → Memᴰ d codes

-- ---- the rule
pub record CodesAscending : Type 0 where
  -- every input has such a list of codes
  pub exists : (input : List ℕ) → (codes : List ℕ) × CodeOrder (words_of input) codes
  -- and no two lists are such
  pub unique : (words : ℕ → ℕ) (a b : List ℕ) → CodeOrder words a → CodeOrder words b → a ≡ b
  -- the output is the answers, `T w r` and the lines of these codes, each with its number of words
  pub written : (input codes : List ℕ) → CodeOrder (words_of input) codes
      → output input ≡ spoken fresh (lines_read input) ++ (total_line (final_state input).tally ++ code_texts (words_of input) codes)
