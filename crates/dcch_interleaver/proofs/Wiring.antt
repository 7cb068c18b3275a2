-- The wire order is a permutation of the cells, with `wire_of` its inverse; tests that antt computes over the table of each format.
-- Assumes nothing.
use mathlib.Core.Path.{◌≡◌, refl}
use Prim.Native.Nat.{ℕ, ◌<◌, ◌≤◌}
use native.Mathlib.Omega.{arith}
use lib.Dec.{T}
use lib.ListN.{length}
use Rattle.bits.specs.Places.{place_in}
use Rattle.bits.proofs.Permuted.{permutes, stands, found, element_below, place_of_element, place_below, element_of_place}
use Rattle.dcch_interleaver.specs.declared.BlockFormat.{BlockFormat}
use Rattle.dcch_interleaver.specs.declared.BlockFormat.TheVariants.{Forward, ReverseNormal, ReverseAbbreviated}
use Rattle.dcch_interleaver.specs.Formats.{encoded_bits, rows_of}
use Rattle.dcch_interleaver.specs.Wire.{across, every_second, wire_order, cell_at, wire_of}

pub order_length : (f : BlockFormat) → length (wire_order f) ≡ encoded_bits f
unfolding across every_second wire_order
order_length Forward = refl
order_length ReverseNormal = refl
order_length ReverseAbbreviated = refl

-- the bounds of a format
pub format_small : (f : BlockFormat) → (0 < rows_of f) × (rows_of f ≤ 13) × (encoded_bits f ≤ 260)
format_small Forward = (omega arith, omega arith, omega arith)
format_small ReverseNormal = (omega arith, omega arith, omega arith)
format_small ReverseAbbreviated = (omega arith, omega arith, omega arith)

-- ---- each cell is sent once: a test for each format, with its size as a number, since it is computed faster than one over all formats
forward_passed : T (permutes (wire_order Forward) 260)
unfolding permutes stands found place_in across every_second wire_order
forward_passed = tt

normal_passed : T (permutes (wire_order ReverseNormal) 244)
unfolding permutes stands found place_in across every_second wire_order
normal_passed = tt

abbreviated_passed : T (permutes (wire_order ReverseAbbreviated) 200)
unfolding permutes stands found place_in across every_second wire_order
abbreviated_passed = tt

passed : (f : BlockFormat) → T (permutes (wire_order f) (encoded_bits f))
passed Forward = forward_passed
passed ReverseNormal = normal_passed
passed ReverseAbbreviated = abbreviated_passed

module _ (f : BlockFormat) where
  pub cell_below : (wire : ℕ) → wire < encoded_bits f → cell_at f wire < encoded_bits f
  unfolding cell_at
  cell_below = element_below (wire_order f) (encoded_bits f) (order_length f) (passed f)

  pub wire_of_cell : (wire : ℕ) → wire < encoded_bits f → wire_of f (cell_at f wire) ≡ wire
  unfolding cell_at wire_of
  wire_of_cell = place_of_element (wire_order f) (encoded_bits f) (order_length f) (passed f)

  pub wire_below : (cell : ℕ) → cell < encoded_bits f → wire_of f cell < encoded_bits f
  unfolding wire_of
  wire_below = place_below (wire_order f) (encoded_bits f) (order_length f) (passed f)

  pub cell_of_wire : (cell : ℕ) → cell < encoded_bits f → cell_at f (wire_of f cell) ≡ cell
  unfolding cell_at wire_of
  cell_of_wire = element_of_place (wire_order f) (encoded_bits f) (order_length f) (passed f)
