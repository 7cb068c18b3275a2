-- FACCH words (IS-54-B 2.7.3.1.1), bits oldest first.
use Rattle.std.specs.Prelude.{Bool, List, [], ◌∷◌, ◌++◌, reverse, ℕ, ◌^◌, length, take, drop}
use Rattle.bits.specs.Bits.{bytes}
use Rattle.bits.specs.Arguments.{Arguments, first_refusal, exact_of, below_of}
use Rattle.coding.specs.Codes.{coded, facch}
use Rattle.words.specs.Words.{made_of}
use Rattle.bits.specs.Calls.{WriteCall}

-- 2.7.3.1.1: the 65 bits of a word, whose header is the continuation flag
abbrev pub word_of : Bool → ℕ → ℕ → List Bool
word_of continuation message dvcc = made_of (continuation ∷ []) message dvcc

-- 2.7.3.1.1.4: the coder starts with the word's first five bits in its memory, takes the rest and then those five, and adds no tail
unfoldable pub tail_biting : List Bool → List Bool
tail_biting w = coded facch (reverse (take 5 w)) (drop 5 w ++ take 5 w)

-- ---- encode
-- room for the coded bits, then Symbol where the message has more than 48 bits
abbrev pub encode_arguments : ℕ → ℕ → Arguments
encode_arguments message room = first_refusal (exact_of 260 room) (below_of (2 ^ 48) message)

abbrev pub Encoding : Bool → ℕ → ℕ → List ℕ → List ℕ → Arguments → Type 0
Encoding continuation message dvcc coded₀ coded r =
    WriteCall (encode_arguments message (length coded₀)) (bytes (tail_biting (word_of continuation message dvcc))) coded₀ coded r
