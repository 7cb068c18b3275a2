-- The channel bits of a frame (TIA/EIA-136-410 4.2 and 4.3), bits in the order of the standard's tables.
use Rattle.std.specs.Prelude.{Bool, false, cond, List, [], ◌∷◌, ◌++◌, ℕ, ◌+◌, ◌-◌, ◌/◌, ◌%◌, eqb, ltb, get_or, take, drop, replicate}
use Rattle.bits.specs.Numbers.{unpacked}
use Rattle.bits.specs.Places.{listed, place_in, taken, put}
use Rattle.coding.specs.Codes.{coded, acelp}
use Rattle.coding.specs.Registers.{memory_low}
use Rattle.checksums.specs.Checksums.{checksum7_of}
use Rattle.puncturing.specs.Punctured.{sent_of}

-- ---- the speech order, Table 4.2, as the original has it: the place in the codec's frame of each ordered bit
unfoldable pub speech_order : List ℕ
speech_order =
    0 ∷ 1 ∷ 2 ∷ 3 ∷ 4 ∷ 5 ∷ 6 ∷ 7 ∷ 8 ∷ 9 ∷ 10 ∷ 11 ∷ 12 ∷ 13 ∷ 14 ∷ 15 ∷ 16 ∷ 26 ∷ 87 ∷ 27 ∷ 88 ∷ 28 ∷ 89 ∷ 29 ∷ 90 ∷ 30 ∷ 91 ∷ 51 ∷ 80 ∷ 112 ∷ 141 ∷
    52 ∷ 81 ∷ 113 ∷ 142 ∷ 53 ∷ 82 ∷ 114 ∷ 143 ∷ 54 ∷ 83 ∷ 115 ∷ 144 ∷ 55 ∷ 84 ∷ 116 ∷ 145 ∷ 58 ∷ 119 ∷ 59 ∷ 120 ∷ 17 ∷ 18 ∷ 19 ∷ 20 ∷ 21 ∷ 22 ∷ 23 ∷
    24 ∷ 25 ∷ 31 ∷ 92 ∷ 60 ∷ 121 ∷ 32 ∷ 93 ∷ 33 ∷ 94 ∷ 61 ∷ 122 ∷ 62 ∷ 123 ∷ 56 ∷ 85 ∷ 117 ∷ 146 ∷ 57 ∷ 86 ∷ 118 ∷ 147 ∷ 50 ∷ 79 ∷ 111 ∷ 140 ∷ 49 ∷ 78
    ∷ 110 ∷ 139 ∷ 48 ∷ 77 ∷ 109 ∷ 138 ∷ 47 ∷ 76 ∷ 108 ∷ 137 ∷ 34 ∷ 35 ∷ 36 ∷ 37 ∷ 38 ∷ 39 ∷ 40 ∷ 41 ∷ 42 ∷ 43 ∷ 44 ∷ 45 ∷ 46 ∷ 63 ∷ 64 ∷ 65 ∷ 66 ∷ 67
    ∷ 68 ∷ 69 ∷ 70 ∷ 71 ∷ 72 ∷ 73 ∷ 74 ∷ 75 ∷ 95 ∷ 96 ∷ 97 ∷ 98 ∷ 99 ∷ 100 ∷ 101 ∷ 102 ∷ 103 ∷ 104 ∷ 105 ∷ 106 ∷ 107 ∷ 124 ∷ 125 ∷ 126 ∷ 127 ∷ 128 ∷
    129 ∷ 130 ∷ 131 ∷ 132 ∷ 133 ∷ 134 ∷ 135 ∷ 136 ∷ []

-- codec bits in the speech order, and back
unfoldable pub ordered : {A : Type 0} → A → List A → List A
ordered d speech = taken d speech_order speech

unfoldable pub unordered : {A : Type 0} → A → List A → List A
unordered d order = listed 148 (λ (s : ℕ). get_or order (place_in speech_order s) d)

-- ---- the 108 inputs: 96 class-one bits and seven checksum bits at their places, and five zeros
-- even bits go up from the front and odd ones down from the back, the first 48 outside, the others inside the checksum's
unfoldable pub information_place : ℕ → ℕ
information_place i =
    cond (eqb (i % 2) 0) (cond (ltb i 48) (i / 2) (i / 2 + 4)) (cond (ltb i 48) (102 - i / 2) (99 - i / 2))

unfoldable pub information_places : List ℕ
information_places = listed 96 information_place

-- the places of the checksum's bits, the highest coefficient first
abbrev pub parity_places : List ℕ
parity_places = 24 ∷ 25 ∷ 26 ∷ 27 ∷ 78 ∷ 77 ∷ 76 ∷ []

-- the checksum of the first 48 ordered bits
unfoldable pub parity_of : List Bool → List Bool
parity_of order = unpacked 7 (checksum7_of (take 48 order))

-- class-one bits and checksum bits put at their places into zeros
unfoldable pub inputs_with : {A : Type 0} → A → List A → List A → List A
inputs_with d order parity = put d parity_places parity (put d information_places order (replicate 108 d))

unfoldable pub inputs_of : List Bool → List Bool
inputs_of order = inputs_with false order (parity_of order)

-- the class-one bits of inputs, and their checksum bits
unfoldable pub class_one_of : List Bool → List Bool
class_one_of inputs = taken false information_places inputs

unfoldable pub check_of : List Bool → List Bool
check_of inputs = taken false parity_places inputs

-- ---- a frame as it is sent: 208 protected bits, then the 52 bits of class two
unfoldable pub ordered_frame : List Bool → List Bool
ordered_frame order = sent_of (coded acelp (memory_low 0) (inputs_of order)) ++ drop 96 order

unfoldable pub frame_of : List Bool → List Bool
frame_of speech = ordered_frame (ordered false speech)
