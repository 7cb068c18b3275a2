-- The listening rule's premise as a test of the bits that are given to the encoder: whatever its memory, rows heard as they were sent decode to what their
-- bits are.
use Rattle.std.specs.Prelude.{◌≡◌, Bool, false, not, ◌&&◌, List, [], ◌∷◌, ◌++◌, ℕ, ◌+◌, ◌-◌, ◌*◌, ◌≤◌, get_or, take, drop}
use Rattle.sacch_encoder.specs.Words.{word_of}
use Rattle.words.specs.Words.{word_valid}
use Rattle.sacch.specs.Calls.{Given}
use Rattle.sacch.specs.Listening.{Begins}

-- the bits of words one after the other
unfoldable pub bits_sent : ℕ → List Given → List Bool
bits_sent dvcc [] = []
bits_sent dvcc (g ∷ given) = word_of g.continuation g.message dvcc ++ bits_sent dvcc given

-- those of rows m to m + 10, six a row
abbrev pub heard_bits : ℕ → List Given → ℕ → List Bool
heard_bits dvcc given m = take 66 (drop (6 * (m - 1)) (bits_sent dvcc given))

-- 66 bits are a word: the second is zero and the checksum right
abbrev pub is_word : List Bool → ℕ → Bool
is_word w dvcc = not (get_or w 1 false) && word_valid 2 w dvcc

-- off a boundary, the bits heard with field n are no word
abbrev pub NoWordHeard : ℕ → ℕ → List Given → ℕ → Type 0
NoWordHeard dvcc a given N = (n : ℕ) → 22 ≤ n → n ≤ N → (Begins (a + n - 22) → ⊥) → is_word (heard_bits dvcc given (a + n - 22)) dvcc ≡ false
