-- What `encode` and `decode` do.
use Rattle.std.specs.Prelude.{Bool, false, List, ◌++◌, reverse, ℕ, eqb, length, take, drop, Result, Ok, Err}
use Rattle.bits.specs.Bits.{bits, bytes}
use Rattle.bits.specs.Numbers.{packed}
use Rattle.bits.specs.Arguments.{Arguments, bits_and_room}
use Rattle.bits.specs.Calls.{WriteCall}
use Rattle.bits.specs.declared.Refusal.{Refusal}
use Rattle.bits.specs.declared.Refusal.TheVariants as refusal
use Rattle.trellis.specs.Nearest.{terminated_words, decided}
use Rattle.puncturing.specs.Punctured.{weight}
use Rattle.acelp_cc1.specs.Frames.{unordered, parity_of, class_one_of, check_of, frame_of}
use Rattle.acelp_cc1.specs.declared.DecodedFrame.{DecodedFrame}

-- ---- encode: each length, then the symbols
abbrev pub encode_arguments : List ℕ → ℕ → Arguments
encode_arguments speech room = bits_and_room 148 speech 260 room

abbrev pub Encoding : List ℕ → List ℕ → List ℕ → Arguments → Type 0
Encoding speech frame₀ frame r = WriteCall (encode_arguments speech (length frame₀)) (bytes (frame_of (bits speech))) frame₀ frame r

-- ---- decode
abbrev pub decode_arguments : List ℕ → ℕ → Arguments
decode_arguments frame room = bits_and_room 260 frame 148 room

-- whether the checksum in inputs is that of their class-one bits
unfoldable pub inputs_valid : List Bool → Bool
inputs_valid inputs = eqb (packed (check_of inputs)) (packed (parity_of (class_one_of inputs)))

-- The weight of a word, inputs newest first, is its disagreements with the 208 protected bits.
abbrev pub frame_weight : List ℕ → List Bool → ℕ
frame_weight frame = weight (take 208 (bits frame))

-- what a call leaves: its answer, and the speech bytes at exit
pub record Exit : Type 0 where
  pub answer : Result DecodedFrame Refusal
  pub speech : List ℕ

abbrev pub exit_of : Result DecodedFrame Refusal → List ℕ → Exit
exit_of answer speech = record { answer = answer; speech = speech }

-- a refusal leaves the bytes as they were lent
abbrev pub refused_exit : Refusal → List ℕ → Exit
refused_exit why speech = exit_of (Err why) speech

-- the class-one bits of inputs that have so many disagreements, and class two as received, in the codec's order; a bad checksum is a flag on an accepted frame
unfoldable pub accepted_exit : List ℕ → List Bool → ℕ → Exit
accepted_exit frame inputs corrected = record {
  answer = Ok (record { crc_valid = inputs_valid inputs; corrected = corrected });
  speech = bytes (unordered false (class_one_of inputs ++ drop 208 (bits frame)));
}

-- Of the words of 108 inputs that end in five zeros the one that alone has the fewest disagreements is accepted, with their number; where two or more share the
-- fewest, Ambiguous.
unfoldable pub decode_of : List ℕ → List ℕ → Exit
decode_of frame speech =
    decided (terminated_words 108) (frame_weight frame) (λ (w : List Bool) (corrected : ℕ). accepted_exit frame (reverse w) corrected) (refused_exit refusal.Ambiguous speech)

abbrev pub decoding : Arguments → List ℕ → List ℕ → Exit
decoding (Err why) frame speech = refused_exit why speech
decoding (Ok passed) frame speech = decode_of frame speech

-- the whole call, of a frame and what was lent for its speech bits
abbrev pub decode_call : List ℕ → List ℕ → Exit
decode_call frame speech = decoding (decode_arguments frame (length speech)) frame speech
