-- What `encode` writes, `decode` reads: the inputs are the one nearest word, and nothing was corrected. Assumes nothing.
use mathlib.Core.Path.{◌≡◌, sym, ap, ap₂, subst, ◌∙◌}
use mathlib.Core.Bool.{Bool, true, false}
use mathlib.Core.List.{List, ◌++◌, reverse, reverse-reverse}
use Prim.Native.Nat.{ℕ}
use native.Mathlib.Omega.{arith}
use lib.ListN.{length, get_or, take, drop, length-map, length-append, length-drop, length-reverse, take-append-drop}
use lib.Seq.{take_at, drop_at}
use Rattle.std.specs.Prelude.{Ok}
use Rattle.bits.specs.Bits.{bit, bits, bytes, byte, all_binary, disagreements}
use Rattle.bits.specs.Places.{listed, place_in}
use Rattle.bits.specs.Arguments.{Arguments}
use Rattle.bits.proofs.Binary.{bits-bytes, bytes_bits, binary_bytes}
use Rattle.bits.proofs.Listed.{taken_back}
use Rattle.bits.proofs.PlacesMoved.{taken-length, taken-listed}
use Rattle.bits.proofs.Refusing.{room_passed}
use Rattle.bits.proofs.Tally.{disagreements_self, disagreements_none}
use Rattle.coding.specs.Codes.{coded, acelp}
use Rattle.coding.specs.Registers.{memory_low}
use Rattle.trellis.specs.Search.{Nearest, Ambiguous}
use Rattle.trellis.specs.Words.{Terminated}
use Rattle.trellis.proofs.Decided.{decided_alone}
use Rattle.puncturing.specs.Punctured.{sent_of, weight}
use Rattle.puncturing.proofs.OneWord.{sent_once}
use Rattle.acelp_cc1.specs.Calls.{Encoding, frame_weight, accepted_exit, decoding, decode_call}
use Rattle.acelp_cc1.specs.Frames.{speech_order, ordered, unordered, inputs_of, class_one_of, ordered_frame, frame_of}
use Rattle.acelp_cc1.proofs.Inputs.{inputs_length}
use Rattle.acelp_cc1.proofs.Meaning.{acelp-decided}
use Rattle.acelp_cc1.proofs.Framing.{protected_length}
use Rattle.acelp_cc1.proofs.OwnInputs.{class_one_own, valid_own, own}
use Rattle.acelp_cc1.proofs.Placing.{speech_size, speech_place_below, speech_at_place}

ordered-length : (speech : List Bool) → length (ordered false speech) ≡ 148
unfolding ordered
ordered-length speech = taken-length false speech_order speech ∙ speech_size

-- the speech order and back
pub unordered-ordered : (speech : List Bool) → length speech ≡ 148 → unordered false (ordered false speech) ≡ speech
unfolding ordered unordered
unordered-ordered speech size =
    ap (unordered false) (taken-listed false speech_order speech ∙ ap (λ (n : ℕ). listed n (λ i. get_or speech (get_or speech_order i 0) false)) speech_size)
    ∙ taken_back 148 (λ i. get_or speech_order i 0) false (place_in speech_order) speech_place_below speech_at_place speech size

-- ---- a frame of ordered bits
module _ (order : List Bool) (size : length order ≡ 148) where
  abbrev protected : List Bool
  protected = sent_of (coded acelp (memory_low 0) (inputs_of order))

  long : length protected ≡ 208
  long = protected_length (memory_low 0) (inputs_of order) (inputs_length order)

  front : take 208 (ordered_frame order) ≡ protected
  unfolding ordered_frame
  front = take_at protected (drop 96 order) 208 long

  class_two_lem : drop 208 (ordered_frame order) ≡ drop 96 order
  unfolding ordered_frame
  class_two_lem = drop_at protected (drop 96 order) 208 long

  pub ordered_frame_length : length (ordered_frame order) ≡ 260
  unfolding ordered_frame
  ordered_frame_length = length-append protected (drop 96 order) ∙ omega (arith, long, length-drop 96 order)

  -- the class-one bits and class two again
  again : class_one_of (inputs_of order) ++ drop 208 (ordered_frame order) ≡ order
  again = ap₂ (λ (a b : List Bool). a ++ b) (class_one_own order size) class_two_lem ∙ take-append-drop 96 order

  own_weight : weight protected (reverse (inputs_of order)) ≡ 0
  unfolding weight
  own_weight = ap (λ (u : List Bool). disagreements (sent_of (coded acelp (memory_low 0) u)) protected) (reverse-reverse (inputs_of order)) ∙ disagreements_self protected

  -- a word that weighs nothing is the frame's own
  only_own : (w : List Bool) → Terminated 108 w → weight protected w ≡ 0 → w ≡ reverse (inputs_of order)
  unfolding weight
  only_own w t e =
      sent_once (memory_low 0) w (reverse (inputs_of order)) t (own order)
      (disagreements_none (sent_of (coded acelp (memory_low 0) (reverse w))) protected
      (protected_length (memory_low 0) (reverse w) (length-reverse w ∙ t.steps) ∙ sym long) e
      ∙ ap (λ (u : List Bool). sent_of (coded acelp (memory_low 0) u)) (sym (reverse-reverse (inputs_of order))))

  nearest_own : (w : List Bool) → Nearest (Terminated 108) (weight protected) w → w ≡ reverse (inputs_of order)
  nearest_own w n = only_own w n.word (omega (arith, n.least (reverse (inputs_of order)) (own order), own_weight))

  clear : Ambiguous (Terminated 108) (weight protected) → ⊥
  clear a = a.distinct (nearest_own a.one a.one_nearest ∙ sym (nearest_own a.other a.other_nearest))

-- ---- the calls
-- a frame's own bits
pub own_bits : (speech : List Bool) (speech₀ : List ℕ) → length speech ≡ 148 → length speech₀ ≡ 148
    → decode_call (bytes (frame_of speech)) speech₀ ≡ record { answer = Ok (record { crc_valid = true; corrected = 0 }); speech = bytes speech }
unfolding frame_of accepted_exit
own_bits speech speech₀ size room =
    let order : List Bool = ordered false speech in
    let many : length order ≡ 148 = ordered-length speech in
    let frame : List ℕ = bytes (ordered_frame order) in
    let sent : bits frame ≡ ordered_frame order = bits-bytes (ordered_frame order) in
    let received : take 208 (bits frame) ≡ protected order many = ap (take 208) sent ∙ front order many in
    let weighs : frame_weight frame (reverse (inputs_of order)) ≡ 0 = ap (λ (u : List Bool). weight u (reverse (inputs_of order))) received ∙ own_weight order many in
    let back : bytes (unordered false (class_one_of (inputs_of order) ++ drop 208 (bits frame))) ≡ bytes speech =
    ap (λ (f : List Bool). bytes (unordered false (class_one_of (inputs_of order) ++ drop 208 f))) sent ∙ ap (λ (o : List Bool). bytes (unordered false o)) (again order many)
    ∙ ap bytes (unordered-ordered speech size) in
    ap (λ (l : Arguments). decoding l frame speech₀)
    (room_passed 260 frame 148 (length speech₀) (length-map (ordered_frame order) byte ∙ ordered_frame_length order many) room (binary_bytes (ordered_frame order)))
    ∙ decided_alone (acelp-decided frame speech₀) (record { word = own order; least = λ u h. omega (arith, weighs) })
    (λ a. clear order many (subst (λ (u : List Bool). Ambiguous (Terminated 108) (weight u)) received a))
    ∙ ap₂ (accepted_exit frame) (reverse-reverse (inputs_of order)) weighs
    ∙ (λ i. record { answer = Ok (record { crc_valid = valid_own order many i; corrected = 0 }); speech = back i })

pub acelp_round_trip : (speech frame₀ frame speech₀ : List ℕ) (r : Arguments) → length speech ≡ 148 → all_binary speech ≡ true → length frame₀ ≡ 260 → length speech₀ ≡ 148
    → Encoding speech frame₀ frame r → decode_call frame speech₀ ≡ record { answer = Ok (record { crc_valid = true; corrected = 0 }); speech = speech }
acelp_round_trip speech frame₀ frame speech₀ r size b room room' e =
    ap (λ (l : List ℕ). decode_call l speech₀) (e.done (room_passed 148 speech 260 (length frame₀) size room b)).1
    ∙ own_bits (bits speech) speech₀ (length-map speech bit ∙ size) room'
    ∙ ap (λ (l : List ℕ). record { answer = Ok (record { crc_valid = true; corrected = 0 }); speech = l }) (bytes_bits speech b)
