-- Decoding of a word (IS-54-B 2.7.3.1.2): the nearest of all words of 66 bits, from whatever memory the encoder was in. Bits oldest first.
use Rattle.std.specs.Prelude.{Bool, false, cond, List, reverse, ℕ, get_or, take, Result, Ok, Err}
use Rattle.bits.specs.Bits.{bits}
use Rattle.bits.specs.Numbers.{packed}
use Rattle.bits.specs.Arguments.{Arguments, exact_bits}
use Rattle.bits.specs.declared.Refusal.{Refusal}
use Rattle.bits.specs.declared.Refusal.TheVariants as refusal
use Rattle.words.specs.Words.{message_in, word_valid}
use Rattle.viterbi.specs.Hard.{free_weight}
use Rattle.trellis.specs.Nearest.{all_words, decided}
use Rattle.sacch_decoder.specs.declared.SacchWord.{SacchWord}

-- ---- one word
-- the content of a word that has so many disagreements; the memory that it leaves is its last five bits, the newest highest
unfoldable pub content_of : List Bool → ℕ → SacchWord
content_of w corrected =
    record { continuation = get_or w 0 false; message = message_in 2 w; corrected = corrected; ending = packed (take 5 (reverse w)) }

-- Reserved where its second bit is set, then Crc where its checksum differs
unfoldable pub finished : List Bool → ℕ → ℕ → Result SacchWord Refusal
finished w corrected dvcc =
    cond (get_or w 1 false) (Err refusal.Reserved) (cond (word_valid 2 w dvcc) (Ok (content_of w corrected)) (Err refusal.Crc))

-- ---- the received bits
-- The word of 66 bits, newest first, that alone has the fewest disagreements over the 32 starting memories decides, with their number; where two or more share
-- the fewest, Ambiguous.
unfoldable pub decode_of : List Bool → ℕ → Result SacchWord Refusal
decode_of received dvcc =
    decided (all_words 66) (free_weight received) (λ (w : List Bool) (corrected : ℕ). finished (reverse w) corrected dvcc) (Err refusal.Ambiguous)

-- ---- the call: the length, then the symbols
abbrev pub decode_arguments : List ℕ → Arguments
decode_arguments coded = exact_bits 132 coded

abbrev pub decoding : Arguments → List ℕ → ℕ → Result SacchWord Refusal
decoding (Err why) coded dvcc = Err why
decoding (Ok passed) coded dvcc = decode_of (bits coded) dvcc
