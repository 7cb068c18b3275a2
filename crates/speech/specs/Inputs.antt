-- The 89 inputs of a frame (IS-54-B 2.1.3.3.3): 77 class-one bits from place 4 on, seven checksum bits around them, and five zeros.
use Rattle.std.specs.Prelude.{Bool, false, cond, List, [], ◌∷◌, ℕ, ◌-◌, ltb, get_or, take, drop}
use Rattle.bits.specs.Numbers.{unpacked}
use Rattle.bits.specs.Places.{listed, place_in, taken}
use Rattle.checksums.specs.Checksums.{checksum7_of}

-- 2.1.3.3.3.3: the significant places, and those of the checksum's bits, the highest coefficient first
abbrev pub significant_places : List ℕ
significant_places = 80 ∷ 4 ∷ 79 ∷ 5 ∷ 78 ∷ 6 ∷ 77 ∷ 7 ∷ 76 ∷ 8 ∷ 75 ∷ 9 ∷ []

abbrev pub parity_places : List ℕ
parity_places = 0 ∷ 83 ∷ 1 ∷ 82 ∷ 2 ∷ 81 ∷ 3 ∷ []

-- the checksum of inputs, over the significant ones
unfoldable pub parity_of : List Bool → List Bool
parity_of inputs = unpacked 7 (checksum7_of (taken false significant_places inputs))

-- the inputs of class-one bits and checksum bits
unfoldable pub inputs_with : List Bool → List Bool → List Bool
inputs_with class_one parity =
    listed 89
    (λ (i : ℕ). cond (ltb (place_in parity_places i) 7) (get_or parity (place_in parity_places i) false)
    (cond (ltb i 81) (get_or class_one (i - 4) false) false))

-- with their own checksum; its places are not significant ones, so it does not matter what they hold before
unfoldable pub inputs_of : List Bool → List Bool
inputs_of class_one = inputs_with class_one (parity_of (inputs_with class_one []))

-- the class-one bits of inputs
abbrev pub class_one_of : List Bool → List Bool
class_one_of inputs = take 77 (drop 4 inputs)
