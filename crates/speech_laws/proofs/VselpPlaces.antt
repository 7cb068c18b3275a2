-- What a frame and its inputs hold at their places, by computation: the bits that were put there come out again. Assumes nothing.
use mathlib.Core.Path.{◌≡◌, refl, sym}
use mathlib.Core.Bool.{Bool, false}
use mathlib.Core.List.{List, [], reverse}
use lib.ListN.{length, take, replicate}
use Rattle.bits.specs.Places.{listed, place_in, taken}
use Rattle.speech.specs.Inputs.{parity_places, significant_places, inputs_with, class_one_of}
use Rattle.speech.specs.Classes.{is_class_two, passing, placed, taken_from, class_two_of, protected_of}
use Rattle.speech.proofs.InputBits.{by_places}

-- ---- the inputs, whatever the checksum bits are
module _ (one parity : List Bool) where
  pub inputs_end : take 5 (reverse (inputs_with one parity)) ≡ replicate 5 false
  unfolding inputs_with listed place_in
  inputs_end = refl

  pub inputs_one : length one ≡ 77 → class_one_of (inputs_with one parity) ≡ one
  unfolding inputs_with listed place_in
  inputs_one e = sym (by_places false 77 one e)

  pub inputs_parity : length parity ≡ 7 → taken false parity_places (inputs_with one parity) ≡ parity
  unfolding inputs_with listed place_in taken
  inputs_parity e = sym (by_places false 7 parity e)

  pub inputs_significant : taken false significant_places (inputs_with one parity) ≡ taken false significant_places (inputs_with one [])
  unfolding inputs_with listed place_in taken
  inputs_significant = refl

-- ---- the frame
module _ (protected two : List Bool) where
  pub placed_two : length two ≡ 82 → class_two_of (placed false protected two) ≡ two
  unfolding placed listed taken_from is_class_two passing
  placed_two e = sym (by_places false 82 two e)

  pub placed_protected : length protected ≡ 178 → protected_of (placed false protected two) ≡ protected
  unfolding placed listed taken_from is_class_two passing
  placed_protected e = sym (by_places false 178 protected e)
