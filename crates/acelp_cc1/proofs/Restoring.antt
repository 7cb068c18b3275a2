-- The end of a decoding: the ordered bits of the inputs and class two, and the test of the checksum. Assumes nothing.
use mathlib.Core.Path.{◌≡◌, sym, ap, ap₂, subst, ◌∙◌}
use mathlib.Core.Bool.{Bool, true, false}
use mathlib.Core.List.{List, ◌++◌}
use Prim.Native.Nat.{ℕ, ◌^◌, ◌<◌}
use native.Mathlib.Omega.{arith}
use lib.Dec.{eqb}
use lib.ListN.{length, take, drop}
use lib.Seq.{take-append-le, length_front}
use borrow.Rule.Slice.PartMut.{put_mid}
use Rattle.bits.specs.Bits.{bits, bytes, byte, all_binary}
use Rattle.bits.specs.Numbers.{packed}
use Rattle.bits.specs.Places.{taken, put}
use Rattle.std.specs.Prelude.{Ok}
use Rattle.bits.proofs.Binary.{bits-bytes, bytes_bits, bits-take, bytes-append}
use Rattle.bits.proofs.LentPart.{became}
use Rattle.bits.proofs.Packed.{packed_below, packed-unpacked_below}
use Rattle.bits.proofs.PlacesMoved.{taken-map, taken-length}
use Rattle.checksums.specs.Checksums.{checksum7_of, check_bits, speech}
use Rattle.checksums.proofs.Answers.{checksum7_below}
use Rattle.acelp_cc1.specs.Calls.{exit_of, inputs_valid, accepted_exit}
use Rattle.acelp_cc1.specs.Frames.{speech_order, information_places, parity_places, parity_of, class_one_of, check_of, unordered}
use Rattle.acelp_cc1.proofs.Ordering.{bytes_drop, put-unordered, unordered-bytes}
use Rattle.acelp_cc1.proofs.Parts.{to_end}
use Rattle.acelp_cc1.proofs.Placing.{information_size}

-- the class-one bits in the first 96 places of sorted, then class two
pub restored : (inputs frame sorted : List ℕ) {information part two : List ℕ} → length sorted ≡ 148 → information ≡ information_places
    → length part ≡ length (take 96 sorted) → part ≡ taken 0 information inputs → two ≡ drop 208 frame
    → put_mid 96 52 (part ++ drop 96 sorted) two ≡ taken 0 information_places inputs ++ drop 208 frame
restored inputs frame sorted {part = part} {two = two} h e kept f g =
    to_end 96 52 (part ++ drop 96 sorted) two (omega (arith, length_front sorted part 96 kept))
    ∙ ap₂ (λ (x y : List ℕ). x ++ y) (became 96 sorted (omega arith) part kept ∙ f ∙ ap (λ (p : List ℕ). taken 0 p inputs) e) g

-- of bits
restored_bytes : (inputs frame : List ℕ) → all_binary inputs ≡ true → all_binary frame ≡ true
    → taken 0 information_places inputs ++ drop 208 frame ≡ bytes (class_one_of (bits inputs) ++ drop 208 (bits frame))
unfolding class_one_of
restored_bytes inputs frame bi bf =
    ap₂ (λ (x y : List ℕ). x ++ y)
    (sym (taken-map false byte information_places (bits inputs) ∙ ap (taken 0 information_places) (bytes_bits inputs bi)))
    (ap (drop 208) (sym (bytes_bits frame bf)) ∙ bytes_drop 208 (bits frame))
    ∙ sym (bytes-append (class_one_of (bits inputs)) (drop 208 (bits frame)))

-- ---- the checksum
class_one_length : (u : List Bool) → length (class_one_of u) ≡ 96
unfolding class_one_of
class_one_length u = taken-length false information_places u ∙ information_size

module _ (inputs frame : List ℕ) (bi : all_binary inputs ≡ true) (bf : all_binary frame ≡ true) {sorted : List ℕ} (e : sorted ≡ taken 0 information_places inputs ++ drop 208 frame) where
  abbrev u : List Bool
  u = bits inputs

  abbrev w : List Bool
  w = drop 208 (bits frame)

  sorted_bytes : sorted ≡ bytes (class_one_of u ++ w)
  sorted_bytes = e ∙ restored_bytes inputs frame bi bf

  parity_value : {checksum : ℕ} → checksum ≡ checksum7_of (bits (take 48 sorted)) → packed (parity_of (class_one_of u)) ≡ checksum
  unfolding parity_of
  parity_value f =
      packed-unpacked_below 7 (checksum7_of (take 48 (class_one_of u))) (checksum7_below (take 48 (class_one_of u)))
      ∙ sym (f ∙ ap checksum7_of (bits-take 48 sorted ∙ ap (λ (l : List ℕ). take 48 (bits l)) sorted_bytes ∙ ap (take 48) (bits-bytes (class_one_of u ++ w))
      ∙ take-append-le 48 (class_one_of u) w (omega (arith, class_one_length u))))

  valid_value : {received checksum : ℕ} → received ≡ packed (taken false parity_places u) → checksum ≡ checksum7_of (bits (take 48 sorted)) → eqb received checksum ≡ inputs_valid u
  unfolding inputs_valid check_of
  valid_value g f = ap₂ eqb g (sym (parity_value f))

  pub accepted_end : (speech₀ : List ℕ) {places written : List ℕ} {received checksum corrected : ℕ} → length speech₀ ≡ 148
      → received ≡ packed (taken false parity_places u) → checksum ≡ checksum7_of (bits (take 48 sorted)) → places ≡ speech_order → written ≡ put 0 places sorted speech₀
      → exit_of (Ok (record { crc_valid = eqb received checksum; corrected = corrected })) written ≡ accepted_exit frame u corrected
  unfolding accepted_exit
  accepted_end speech₀ {written = written} {corrected = corrected} room g f ep ew =
      let bytes-are : written ≡ bytes (unordered false (class_one_of u ++ w)) =
      put-unordered sorted speech₀ room ep ew ∙ ap (unordered 0) sorted_bytes ∙ unordered-bytes (class_one_of u ++ w) in
      λ i. record { answer = Ok (record { crc_valid = valid_value g f i; corrected = corrected }); speech = bytes-are i }
