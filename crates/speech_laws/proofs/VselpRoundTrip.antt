-- `decode_candidate` of `encode` is the speech bits, valid, corrected 0: the frame's own word weighs nothing, and no other word has its coded bits.
-- Class two comes through whatever the protected bits become. Assumes nothing.
use mathlib.Core.Path.{◌≡◌, refl, sym, ap, ap₂, ◌∙◌}
use mathlib.Core.Logic.{inl, inr}
use mathlib.Core.Bool.{Bool, true, false}
use mathlib.Core.List.{List, [], reverse, reverse-reverse}
use Prim.Native.Nat.{ℕ, ◌*◌}
use native.Mathlib.Omega.{arith}
use lib.ListN.{length, length-map, length-reverse}
use borrow.Author.Tests.{eq-eqb}
use Rattle.std.specs.Prelude.{Result, Ok, Err}
use Rattle.bits.specs.Bits.{bit, byte, bits, bytes, disagreements}
use Rattle.bits.specs.Numbers.{packed, unpacked}
use Rattle.bits.specs.Places.{taken}
use Rattle.bits.specs.Arguments.{Arguments, first_refusal}
use Rattle.bits.specs.declared.Refusal.{Refusal}
use Rattle.bits.specs.declared.Refusal.TheVariants as refusal
use Rattle.bits.proofs.Binary.{bits-bytes, bytes_bits, binary_bytes}
use Rattle.bits.proofs.Listed.{length-listed}
use Rattle.bits.proofs.Packed.{unpacked-length}
use Rattle.bits.proofs.Refusing.{exact_passed, binary_passed}
use Rattle.bits.proofs.Tally.{disagreements_self, disagreements_none}
use Rattle.checksums.specs.Checksums.{checksum7_of}
use Rattle.coding.specs.Codes.{coded, dcch}
use Rattle.coding.specs.Registers.{memory_high}
use Rattle.coding.proofs.Coded.{coded-length}
use Rattle.coding.proofs.Unique.{same_start}
use Rattle.trellis.specs.Search.{Nearest, Ambiguous}
use Rattle.trellis.specs.Words.{Terminated}
use Rattle.trellis.proofs.Decided.{Decided, decided_alone}
use Rattle.viterbi.specs.Hard.{weight, weight_from}
use Rattle.speech.specs.Inputs.{parity_places, parity_of, inputs_with, inputs_of, class_one_of}
use Rattle.speech.specs.Classes.{placed, protected_of, class_two_of, is_class_two}
use Rattle.speech.specs.Frames.{frame_of}
use Rattle.speech.specs.declared.SpeechCandidate.{SpeechCandidate}
use Rattle.speech.specs.Calls.{Exit, refused_exit, Encoding, encode_arguments, decode_arguments, frame_weight, status_of, accepted_exit, decode_of, decoding, decode_call}
use Rattle.speech.specs.declared.CrcStatus.TheVariants.{Valid}
use Rattle.bits.proofs.Refusing.{passed_two}
use Rattle.speech.proofs.InputBits.{inputs_length}
use Rattle.speech_laws.proofs.VselpPlaces.{inputs_end, inputs_one, inputs_parity, inputs_significant, placed_two, placed_protected}
use Rattle.speech.proofs.Meaning.{vselp_decided}
use Rattle.speech.proofs.Settling.{map-taken}
use Rattle.speech.proofs.Statuses.{status_by}

-- ---- class two
placed-length : (protected two : List Bool) → length (placed false protected two) ≡ 260
unfolding placed
placed-length protected two = length-listed 260 _

placed_through : (protected two : List Bool) → length two ≡ 82 → class_two_of (bytes (placed false protected two)) ≡ bytes two
placed_through protected two e = sym (map-taken byte is_class_two 0 (placed false protected two)) ∙ ap bytes (placed_two protected two e)

module _ (frame one₀ two₀ : List ℕ) {t : SpeechCandidate} where
  accepted_two : Decided (Terminated 89) (frame_weight frame) (λ w n. accepted_exit frame (reverse w) n) (refused_exit refusal.Ambiguous one₀ two₀) (decode_of frame one₀ two₀)
      → (decode_of frame one₀ two₀).answer ≡ Ok t → (decode_of frame one₀ two₀).class_two ≡ class_two_of frame
  unfolding accepted_exit
  accepted_two (inl s) e = ap (λ (x : Exit). x.class_two) s.decides
  accepted_two (inr s) e = let told : ◌≡◌ {A = Result SpeechCandidate Refusal} (Err refusal.Ambiguous) (Ok t) = sym (ap (λ (x : Exit). x.answer) s.decides) ∙ e in let z : ◌≡◌ {A = ℕ} 0 1 = cc in absurd (omega arith)

  call_two : (l : Arguments) → (decoding l frame one₀ two₀).answer ≡ Ok t → (decoding l frame one₀ two₀).class_two ≡ class_two_of frame
  call_two (Ok p) e = accepted_two (vselp_decided frame one₀ two₀) e
  call_two (Err why) e = let z : ◌≡◌ {A = ℕ} 0 1 = cc in absurd (omega arith)

-- an accepted frame has its class two, whatever the protected bits are
pub class_two_through : (protected two : List Bool) (one₀ two₀ : List ℕ) {t : SpeechCandidate} → length two ≡ 82
    → (decode_call (bytes (placed false protected two)) one₀ two₀).answer ≡ Ok t → (decode_call (bytes (placed false protected two)) one₀ two₀).class_two ≡ bytes two
class_two_through protected two one₀ two₀ size e =
    let frame : List ℕ = bytes (placed false protected two) in
    call_two frame one₀ two₀ (decode_arguments frame (length one₀) (length two₀)) e ∙ placed_through protected two size

-- ---- a frame's own word
module _ (one two : List Bool) (size : length one ≡ 77) where
  sent : List Bool
  sent = coded dcch (memory_high 0) (inputs_of one)

  sent_length : length sent ≡ 178
  unfolding sent
  sent_length = coded-length dcch (memory_high 0) (inputs_of one) ∙ ap (λ (n : ℕ). n * 2) (inputs_length one)

  -- what the decoder weighs with
  received : protected_of (bits (bytes (frame_of one two))) ≡ sent
  unfolding frame_of sent
  received = ap protected_of (bits-bytes (placed false sent two)) ∙ placed_protected sent two sent_length

  own : Terminated 89 (reverse (inputs_of one))
  unfolding inputs_of
  own = record { steps = length-reverse (inputs_of one) ∙ inputs_length one; tail = inputs_end one _ }

  own_weight : frame_weight (bytes (frame_of one two)) (reverse (inputs_of one)) ≡ 0
  unfolding weight_from sent
  own_weight =
      ap (λ (u : List Bool). weight u (reverse (inputs_of one))) received
      ∙ ap (λ (u : List Bool). disagreements (coded dcch (memory_high 0) u) sent) (reverse-reverse (inputs_of one)) ∙ disagreements_self sent

  only_own : (w : List Bool) → Nearest (Terminated 89) (frame_weight (bytes (frame_of one two))) w → (frame_weight (bytes (frame_of one two)) w ≡ 0) × (reverse w ≡ inputs_of one)
  unfolding weight_from sent
  only_own w n =
      let zero : frame_weight (bytes (frame_of one two)) w ≡ 0 = omega (arith, n.least (reverse (inputs_of one)) own, own_weight) in (
        zero,
        same_start (memory_high 0) (reverse w) (inputs_of one)
            (disagreements_none (coded dcch (memory_high 0) (reverse w)) sent
            (coded-length dcch (memory_high 0) (reverse w) ∙ omega (arith, length-reverse w, n.word.steps, sent_length))
            (ap (λ (u : List Bool). weight u w) (sym received) ∙ zero)),
      )

  alone : Ambiguous (Terminated 89) (frame_weight (bytes (frame_of one two))) → ⊥
  alone a =
      a.distinct
      (sym (reverse-reverse a.one) ∙ ap reverse ((only_own a.one a.one_nearest).1 ∙ sym (only_own a.other a.other_nearest).1) ∙ reverse-reverse a.other)

  -- the checksum is right
  valid_own : status_of (inputs_of one) ≡ Valid
  unfolding inputs_of parity_of
  valid_own =
      let p : List Bool = parity_of (inputs_with one []) in
      status_by (inputs_with one p) true
      (eq-eqb (packed (taken false parity_places (inputs_with one p))) (packed (parity_of (inputs_with one p)))
      (ap packed (inputs_parity one p (unpacked-length 7 _) ∙ ap (λ (u : List Bool). unpacked 7 (checksum7_of u)) (sym (inputs_significant one p)))))

  own_one : class_one_of (inputs_of one) ≡ one
  unfolding inputs_of
  own_one = inputs_one one _ size

  passed : (n m : ℕ) → n ≡ 77 → m ≡ 82 → decode_arguments (bytes (frame_of one two)) n m ≡ Ok tt
  unfolding frame_of
  passed n m en em =
      let frame : List ℕ = bytes (frame_of one two) in
      ap₂ first_refusal (exact_passed 260 (length frame) (length-map (frame_of one two) byte ∙ placed-length _ two))
      (ap₂ first_refusal (exact_passed 77 n en) (ap₂ first_refusal (exact_passed 82 m em) (binary_passed frame (binary_bytes (frame_of one two)))))

  -- of the frame of speech bits
  pub vselp_round_trip : length two ≡ 82 → (one₀ two₀ : List ℕ) → length one₀ ≡ 77 → length two₀ ≡ 82
      → decode_call (bytes (frame_of one two)) one₀ two₀ ≡ record { answer = Ok (record { crc = Valid; corrected = 0 }); class_one = bytes one; class_two = bytes two }
  unfolding accepted_exit frame_of sent
  vselp_round_trip twos one₀ two₀ room-one room-two =
      let frame : List ℕ = bytes (frame_of one two) in
      let through : class_two_of frame ≡ bytes two = placed_through sent two twos in
      ap (λ (l : Arguments). decoding l frame one₀ two₀) (passed (length one₀) (length two₀) room-one room-two)
      ∙ decided_alone (vselp_decided frame one₀ two₀) (record { word = own; least = λ u h. omega (arith, own_weight) }) alone
      ∙ ap₂ (accepted_exit frame) (reverse-reverse (inputs_of one)) own_weight
      ∙ (λ i. record { answer = Ok (record { crc = valid_own i; corrected = 0 }); class_one = bytes (own_one i); class_two = through i })

-- ---- what `encode` writes, `decode_candidate` reads
pub encoded_back : (one two one₀ two₀ : List ℕ) {frame₀ frame : List ℕ} (r : Arguments) → encode_arguments one two (length frame₀) ≡ Ok tt
    → length one₀ ≡ 77 → length two₀ ≡ 82 → Encoding one two frame₀ frame r
    → decode_call frame one₀ two₀ ≡ record { answer = Ok (record { crc = Valid; corrected = 0 }); class_one = one; class_two = two }
encoded_back one two one₀ two₀ {frame₀} r fits room-one room-two e =
    let t = passed_two 77 one 82 two 260 (length frame₀) refl fits in
    ap (λ (l : List ℕ). decode_call l one₀ two₀) (e.done fits).1
    ∙ vselp_round_trip (bits one) (bits two) (length-map one bit ∙ t.0.0) (length-map two bit ∙ t.0.1) one₀ two₀ room-one room-two
    ∙ ap₂ (λ (x y : List ℕ). record { answer = Ok (record { crc = Valid; corrected = 0 }); class_one = x; class_two = y }) (bytes_bits one t.1.0) (bytes_bits two t.1.1)
