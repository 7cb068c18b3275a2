-- The order of a slot: which place of a frame each row and column carry. A slot carries each place once.
use Rattle.std.specs.Prelude.{◌≡◌, ℕ, ◌/◌, ◌%◌, ◌<◌}

-- the place that a bit of a slot carries: the bits are the rows one after the other
abbrev pub at_wire : (ℕ → ℕ → ℕ) → ℕ → ℕ
at_wire place_of wire = place_of (wire / 10) (wire % 10)

-- the places and the bits of a slot stand for one another
pub record OrderLaws (place_of : ℕ → ℕ → ℕ) (wire_of : ℕ → ℕ) : Type 0 where
  pub place_below : (wire : ℕ) → wire < 260 → at_wire place_of wire < 260
  pub wire_below : (place : ℕ) → place < 260 → wire_of place < 260
  pub wire_of_place : (wire : ℕ) → wire < 260 → wire_of (at_wire place_of wire) ≡ wire
  pub place_of_wire : (place : ℕ) → place < 260 → at_wire place_of (wire_of place) ≡ place
