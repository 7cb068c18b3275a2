-- The inputs of a frame give back its class-one bits and a right checksum, and end in five zeros. Assumes nothing.
use mathlib.Core.Path.{◌≡◌, refl, sym, ap, subst, ◌∙◌}
use mathlib.Core.Bool.{Bool, true, false}
use mathlib.Core.List.{List, ◌++◌, reverse, reverse-append}
use Prim.Native.Nat.{ℕ, ◌<◌, ◌≤◌}
use native.Mathlib.Omega.{arith}
use lib.Dec.{leb, leb→le}
use lib.ListN.{length, get_or, take, drop, replicate, length-replicate, length-reverse, take-append-drop}
use lib.Seq.{take_all, take-take}
use borrow.Author.Tests.{eq-eqb}
use Rattle.bits.specs.Numbers.{packed, unpacked}
use Rattle.bits.specs.Places.{listed, place_in, put, Below, Apart}
use Rattle.bits.proofs.Listed.{get_d_listed}
use Rattle.bits.proofs.Packed.{unpacked-length}
use Rattle.bits.proofs.PlacesMoved.{put-length, taken_put, taken_kept}
use Rattle.bits.proofs.Tested.{below}
use Rattle.checksums.specs.Checksums.{checksum7_of}
use Rattle.trellis.specs.Words.{Terminated}
use Rattle.acelp_cc1.specs.Calls.{inputs_valid}
use Rattle.acelp_cc1.specs.Frames.{information_place, information_places, parity_places, parity_of, inputs_with, inputs_of, class_one_of, check_of}
use Rattle.acelp_cc1.proofs.Inputs.{inputs_length}
use Rattle.acelp_cc1.proofs.Placing.{information_size, information_apart, parity_apart}

-- the class-one bits stand where no checksum bit does
unfoldable free : ℕ → Bool
free i = leb 7 (place_in parity_places (information_place i))

not_parity : (i : ℕ) → i < 96 → 7 ≤ place_in parity_places (get_or information_places i 0)
unfolding free place_in information_place information_places
not_parity i h = rw (get_d_listed 96 information_place 0 i h) (leb→le 7 _ (below free 96 tt i h))

module _ (order : List Bool) where
  -- the class-one bits put into zeros, with no checksum yet
  abbrev without : List Bool
  without = put false information_places order (replicate 108 false)

  without_length : length without ≡ 108
  without_length = put-length false information_places order (replicate 108 false) ∙ length-replicate 108 false

  pub class_one_own : length order ≡ 148 → class_one_of (inputs_of order) ≡ take 96 order
  unfolding class_one_of inputs_of inputs_with
  class_one_own size =
      taken_kept false parity_places (parity_of order) without (subst (Apart parity_places) (sym without_length) parity_apart) information_places
      (subst (Below information_places) (sym without_length) information_apart.low) (λ i h. not_parity i (omega (arith, information_size)))
      ∙ taken_put false information_places order (replicate 108 false) information_apart (omega (arith, information_size))
      ∙ ap (λ (n : ℕ). take n order) information_size

  check_own : check_of (inputs_of order) ≡ parity_of order
  unfolding check_of inputs_of inputs_with parity_of
  check_own =
      taken_put false parity_places (parity_of order) without (subst (Apart parity_places) (sym without_length) parity_apart) (omega (arith, unpacked-length 7 (checksum7_of (take 48 order))))
      ∙ take_all 7 (parity_of order) (omega (arith, unpacked-length 7 (checksum7_of (take 48 order))))

  -- the checksum in the inputs is right
  pub valid_own : length order ≡ 148 → inputs_valid (inputs_of order) ≡ true
  unfolding inputs_valid parity_of
  valid_own size =
      let same : parity_of (class_one_of (inputs_of order)) ≡ parity_of order =
      ap parity_of (class_one_own size) ∙ ap (λ (l : List Bool). unpacked 7 (checksum7_of l)) (take-take 48 96 order (omega arith)) in
      eq-eqb _ _ (ap packed (check_own ∙ sym same))

  -- the inputs end in five zeros
  zeros : drop 103 (inputs_of order) ≡ replicate 5 false
  unfolding inputs_of inputs_with put listed place_in information_places information_place
  zeros = refl

  pub own : Terminated 108 (reverse (inputs_of order))
  own =
      record {
        steps = length-reverse (inputs_of order) ∙ inputs_length order;
        tail =
            ap (λ (l : List Bool). take 5 (reverse l)) (sym (take-append-drop 103 (inputs_of order)) ∙ ap (λ (l : List Bool). take 103 (inputs_of order) ++ l) zeros)
            ∙ ap (take 5) (reverse-append (take 103 (inputs_of order)) (replicate 5 false));
      }
