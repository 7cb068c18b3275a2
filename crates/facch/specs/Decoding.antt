-- Decoding of a word: the nearest word over the observed bits (IS-54-B 2.7.3.1.1). A byte 2 stands for a bit that was not observed.
-- A word is its 65 bits, oldest first.
use Rattle.std.specs.Prelude.{Bool, false, cond, List, ℕ, ltb, get_or, Result, Ok, Err}
use Rattle.bits.specs.Arguments.{Arguments, exact_bits}
use Rattle.bits.specs.Observed.{exact_erasable, observed_count}
use Rattle.bits.specs.declared.Refusal.{Refusal}
use Rattle.bits.specs.declared.Refusal.TheVariants as refusal
use Rattle.trellis.specs.Nearest.{all_words, decided}
use Rattle.words.specs.Words.{message_in, word_valid}
use Rattle.facch.specs.declared.FacchWord.{FacchWord}
use Rattle.facch.specs.Search.{weight}

-- the content of a word, the message as a number with its first bit highest, with its corrected and observed bits
unfoldable pub content_of : List Bool → ℕ → ℕ → FacchWord
content_of w corrected observed =
    record { continuation = get_or w 0 false; message = message_in 1 w; corrected = corrected; observed = observed }

-- the content of a word where its checksum is right, else Crc
unfoldable pub finished : List Bool → ℕ → ℕ → ℕ → Result FacchWord Refusal
finished w corrected observed dvcc = cond (word_valid 1 w dvcc) (Ok (content_of w corrected observed)) (Err refusal.Crc)

-- Fewer than 65 observed bits are too few. Else the word of 65 bits that alone has the fewest disagreements decides, with their number; where two or more share
-- the fewest, Ambiguous.
unfoldable pub decode_of : List ℕ → ℕ → Result FacchWord Refusal
decode_of received dvcc =
    cond (ltb (observed_count received) 65) (Err refusal.InsufficientObservations)
    (decided (all_words 65) (weight received) (λ (w : List Bool) (corrected : ℕ). finished w corrected (observed_count received) dvcc) (Err refusal.Ambiguous))

-- ---- the calls: 260 bytes 0, 1 and 2, or 260 bits
abbrev pub erased_arguments : List ℕ → Arguments
erased_arguments coded = exact_erasable 260 coded

abbrev pub decode_arguments : List ℕ → Arguments
decode_arguments coded = exact_bits 260 coded

abbrev pub decoding : Arguments → List ℕ → ℕ → Result FacchWord Refusal
decoding (Err why) coded dvcc = Err why
decoding (Ok passed) coded dvcc = decode_of coded dvcc
