-- The places of the three tables, each by one test. Assumes nothing.
use mathlib.Core.Path.{◌≡◌, refl}
use Prim.Native.Nat.{ℕ, ◌<◌}
use lib.Dec.{T}
use lib.ListN.{length, get_or}
use Rattle.bits.specs.Places.{listed, place_in, Apart}
use Rattle.bits.proofs.Listed.{length-listed}
use Rattle.bits.proofs.Permuted.{stands, found, permutes, place_below, element_of_place}
use Rattle.bits.proofs.PlacesMoved.{stands_apart, permuted_apart}
use Rattle.acelp_cc1.specs.Frames.{speech_order, information_place, information_places, parity_places}

-- ---- the three tables
pub speech_size : length speech_order ≡ 148
unfolding speech_order
speech_size = refl

pub information_size : length information_places ≡ 96
unfolding information_places
information_size = length-listed 96 information_place

-- the speech order is a permutation
speech_passed : T (permutes speech_order 148)
unfolding speech_order permutes stands found place_in
speech_passed = tt

pub speech_place_below : (s : ℕ) → s < 148 → place_in speech_order s < 148
speech_place_below = place_below speech_order 148 speech_size speech_passed

pub speech_at_place : (s : ℕ) → s < 148 → get_or speech_order (place_in speech_order s) 0 ≡ s
speech_at_place = element_of_place speech_order 148 speech_size speech_passed

pub speech_apart : Apart speech_order 148
speech_apart = permuted_apart speech_order 148 speech_size speech_passed

pub information_apart : Apart information_places 108
unfolding information_places information_place listed stands place_in
information_apart = stands_apart information_places 96 108 refl tt

pub parity_apart : Apart parity_places 108
unfolding stands place_in
parity_apart = stands_apart parity_places 7 108 refl tt
