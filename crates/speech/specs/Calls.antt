-- What `encode` and `decode_candidate` do.
use Rattle.std.specs.Prelude.{Bool, false, cond, List, reverse, ℕ, eqb, length, Result, Ok, Err}
use Rattle.bits.specs.Bits.{bits, bytes}
use Rattle.bits.specs.Numbers.{packed}
use Rattle.bits.specs.Places.{taken}
use Rattle.bits.specs.Arguments.{Arguments, first_refusal, exact_of, binary_of, two_and_room}
use Rattle.bits.specs.Calls.{WriteCall}
use Rattle.bits.specs.declared.Refusal.{Refusal}
use Rattle.bits.specs.declared.Refusal.TheVariants as refusal
use Rattle.trellis.specs.Nearest.{terminated_words, decided}
use Rattle.viterbi.specs.Hard.{weight}
use Rattle.speech.specs.Inputs.{parity_places, parity_of, class_one_of}
use Rattle.speech.specs.Classes.{class_two_of, protected_of}
use Rattle.speech.specs.Frames.{frame_of}
use Rattle.speech.specs.declared.CrcStatus.{CrcStatus}
use Rattle.speech.specs.declared.CrcStatus.TheVariants.{Valid, Failed}
use Rattle.speech.specs.declared.SpeechCandidate.{SpeechCandidate}

-- ---- encode: each length, then the symbols
abbrev pub encode_arguments : List ℕ → List ℕ → ℕ → Arguments
encode_arguments class_one class_two room =
    two_and_room 77 class_one 82 class_two 260 room

abbrev pub Encoding : List ℕ → List ℕ → List ℕ → List ℕ → Arguments → Type 0
Encoding class_one class_two frame₀ frame r =
    WriteCall (encode_arguments class_one class_two (length frame₀)) (bytes (frame_of (bits class_one) (bits class_two))) frame₀ frame r

-- ---- decode_candidate
abbrev pub decode_arguments : List ℕ → ℕ → ℕ → Arguments
decode_arguments frame room_one room_two =
    first_refusal (exact_of 260 (length frame)) (first_refusal (exact_of 77 room_one) (first_refusal (exact_of 82 room_two) (binary_of frame)))

-- whether the checksum in inputs is theirs; a failed one is a status of an accepted frame
unfoldable pub status_of : List Bool → CrcStatus
status_of inputs = cond (eqb (packed (taken false parity_places inputs)) (packed (parity_of inputs))) Valid Failed

-- The weight of a word, inputs newest first, is its disagreements with the protected bits.
abbrev pub frame_weight : List ℕ → List Bool → ℕ
frame_weight frame = weight (protected_of (bits frame))

-- what a call leaves: its answer, and the bytes of both classes at exit
pub record Exit : Type 0 where
  pub answer : Result SpeechCandidate Refusal
  pub class_one : List ℕ
  pub class_two : List ℕ

abbrev pub exit_of : Result SpeechCandidate Refusal → List ℕ → List ℕ → Exit
exit_of answer class_one class_two = record { answer = answer; class_one = class_one; class_two = class_two }

-- a refusal leaves the bytes as they were lent
abbrev pub refused_exit : Refusal → List ℕ → List ℕ → Exit
refused_exit why class_one class_two = exit_of (Err why) class_one class_two

-- the class-one bits of inputs that have so many disagreements, and class two as received
unfoldable pub accepted_exit : List ℕ → List Bool → ℕ → Exit
accepted_exit frame inputs corrected = record {
  answer = Ok (record { crc = status_of inputs; corrected = corrected });
  class_one = bytes (class_one_of inputs);
  class_two = class_two_of frame;
}

-- Of the words of 89 inputs that end in five zeros the one that alone has the fewest disagreements is accepted, with their number; where two or more share the
-- fewest, Ambiguous.
unfoldable pub decode_of : List ℕ → List ℕ → List ℕ → Exit
decode_of frame class_one class_two =
    decided (terminated_words 89) (frame_weight frame) (λ (w : List Bool) (corrected : ℕ). accepted_exit frame (reverse w) corrected)
    (refused_exit refusal.Ambiguous class_one class_two)

abbrev pub decoding : Arguments → List ℕ → List ℕ → List ℕ → Exit
decoding (Err why) frame class_one class_two = refused_exit why class_one class_two
decoding (Ok passed) frame class_one class_two = decode_of frame class_one class_two

-- the whole call, of a frame and what was lent for both classes
abbrev pub decode_call : List ℕ → List ℕ → List ℕ → Exit
decode_call frame class_one class_two = decoding (decode_arguments frame (length class_one) (length class_two)) frame class_one class_two
