-- A row of 64 branch metrics: its layout, and the output bits of a code in it. A state has its newest input lowest.
use Rattle.std.specs.Prelude.{◌≡◌, Bool, List, [], ◌∷◌, map, ℕ, ◌+◌, ◌*◌, ◌/◌, ◌%◌, ◌<◌, length, get_or}
use Rattle.std.specs.Int.Bits.{bit_and}
use Rattle.std.specs.Int.Count.{ones}
use Rattle.bits.specs.Bits.{bit, byte, tally}
use Rattle.bits.specs.Observed.{erased_differ}
use Rattle.bits.specs.Places.{listed, place_in}

-- The place of the branch from the state s with the input b: by the state's low four bits, then the input, then the state's high bit.
abbrev pub place_of : ℕ → Bool → ℕ
place_of s b = s % 16 + byte b * 16 + s / 16 * 32

-- the places of the registers 0 to 63, each a state with the input below it
abbrev pub layout : List ℕ
layout = listed 64 (λ (register : ℕ). place_of (register / 2) (bit register))

-- the register of a place
unfoldable pub register_at : ℕ → ℕ
register_at place = place_in layout place

-- a generator as a number, the coefficient of D^0 lowest
abbrev pub taps_of : List Bool → ℕ
taps_of [] = 0
taps_of (g ∷ gs) = taps_of gs * 2 + byte g

-- the generator i of a code
abbrev pub taps : List (List Bool) → ℕ → ℕ
taps code i = taps_of (get_or code i [])

-- an output bit of a place
unfoldable pub output_at : ℕ → ℕ → Bool
output_at taps place = bit (ones (bit_and (register_at place) taps))

-- the first k places of a list hold the output bits of a generator
abbrev pub OutputsTo : ℕ → List ℕ → ℕ → Type 0
OutputsTo taps l k = (place : ℕ) → place < k → get_or l place 0 ≡ byte (output_at taps place)

-- ---- rows of output bits, one for each generator, against what was received of a step
pub record OutputsOf (generators : List ℕ) (outputs : List (List ℕ)) : Type 0 where
  pub size : length outputs ≡ length generators
  pub row : (i : ℕ) → i < length generators → OutputsTo (get_or generators i 0) (get_or outputs i []) 64

-- in how many bits those of a place differ, over the observed ones
unfoldable pub distance_at : List (List ℕ) → List ℕ → ℕ → ℕ
distance_at outputs received place = tally erased_differ (map (λ (l : List ℕ). bit (get_or l place 0)) outputs) received

abbrev pub DistancesTo : List (List ℕ) → List ℕ → List ℕ → ℕ → Type 0
DistancesTo outputs received row k = (place : ℕ) → place < k → get_or row place 0 ≡ distance_at outputs received place
