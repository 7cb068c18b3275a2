-- Convolutional codes of constraint length six: an output bit is the sum modulo 2 of the tapped inputs.
use Rattle.std.specs.Prelude.{Bool, false, ◌&&◌, List, [], ◌∷◌, ◌++◌, map, ℕ, ◌/◌}
use Rattle.bits.specs.Bits.{bit, bits, ◌⊕◌}

-- The sum modulo 2 of the inputs, newest first, that the coefficients of a generator tap: the coefficient of D^i taps the input of i steps before.
unfoldable pub tapped : List Bool → List Bool → Bool
tapped [] inputs = false
tapped (g ∷ gs) [] = false
tapped (g ∷ gs) (x ∷ inputs) = (g && x) ⊕ tapped gs inputs

-- the output bits of one step: one for each generator
abbrev pub outputs : List (List Bool) → List Bool → List Bool
outputs code inputs = map (λ (g : List Bool). tapped g inputs) code

-- the coded bits of inputs, oldest first, that follow the inputs `before`, newest first
unfoldable pub coded : List (List Bool) → List Bool → List Bool → List Bool
coded code before [] = []
coded code before (x ∷ inputs) = outputs code (x ∷ before) ++ coded code (x ∷ before) inputs

-- ---- the generators, the coefficient of D^0 first
-- IS-136.2-A 2.1.3.3.3.4: octal 65 and 57, the free coefficient highest
abbrev pub dcch : List (List Bool)
dcch = bits (1 ∷ 1 ∷ 0 ∷ 1 ∷ 0 ∷ 1 ∷ []) ∷ bits (1 ∷ 0 ∷ 1 ∷ 1 ∷ 1 ∷ 1 ∷ []) ∷ []

-- IS-54-B 2.7.3.1.1.4: octal 67, 71, 75 and 53
abbrev pub facch : List (List Bool)
facch =
    bits (1 ∷ 1 ∷ 0 ∷ 1 ∷ 1 ∷ 1 ∷ []) ∷ bits (1 ∷ 1 ∷ 1 ∷ 0 ∷ 0 ∷ 1 ∷ []) ∷ bits (1 ∷ 1 ∷ 1 ∷ 1 ∷ 0 ∷ 1 ∷ []) ∷ bits (1 ∷ 0 ∷ 1 ∷ 0 ∷ 1 ∷ 1 ∷ []) ∷ []

-- TIA/EIA-136-410 4.3: binary 101011 and 111101, the free coefficient lowest
abbrev pub acelp : List (List Bool)
acelp = bits (1 ∷ 1 ∷ 0 ∷ 1 ∷ 0 ∷ 1 ∷ []) ∷ bits (1 ∷ 0 ∷ 1 ∷ 1 ∷ 1 ∷ 1 ∷ []) ∷ []

-- ---- a generator written as a number of six digits
-- the coefficient of D^0 highest, as in IS-136 and IS-54-B
abbrev pub from_highest : ℕ → List Bool
from_highest g = bit (g / 32) ∷ bit (g / 16) ∷ bit (g / 8) ∷ bit (g / 4) ∷ bit (g / 2) ∷ bit g ∷ []

-- and lowest, as in TIA/EIA-136-410
abbrev pub from_lowest : ℕ → List Bool
from_lowest g = bit g ∷ bit (g / 2) ∷ bit (g / 4) ∷ bit (g / 8) ∷ bit (g / 16) ∷ bit (g / 32) ∷ []
