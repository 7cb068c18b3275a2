-- Reliabilities: doubles that read as a one where they are below zero, and whose size says how surely.
use Rattle.std.specs.Prelude.{Bool, true, false, ◌&&◌, cond, List, [], ◌∷◌, map, ℕ, ◌*◌, ◌/◌, ◌^◌, ◌<◌, ◌≤◌, pos, length, get_or, Float}
use Rattle.std.specs.Float.{nan, inf, fin}
use Rattle.std.specs.Float.Ieee.{lt, up, down}
use Rattle.std.specs.Float.Ieee.Exact.{HasValue}
use Rattle.bits.specs.Bits.{◌⊕◌, disagreements}

abbrev pub zero_f : Float
zero_f = fin false 0 (pos 0)

-- neither a NaN nor an infinity
unfoldable pub is_finite : Float → Bool
is_finite nan = false
is_finite (inf s) = false
is_finite (fin s m e) = true

unfoldable pub all_finite : List Float → Bool
all_finite [] = true
all_finite (x ∷ l) = is_finite x && all_finite l

-- the absolute value: the sign is cleared, also of a zero
unfoldable pub magnitude : Float → Float
magnitude nan = nan
magnitude (inf s) = inf false
magnitude (fin s m e) = fin false m e

-- the bit that a reliability reads as; a zero of either sign reads as a zero
unfoldable pub negative : Float → Bool
negative x = lt x zero_f

-- how many coded bits differ from the signs of the reliabilities
abbrev pub sign_count : List Bool → List Float → ℕ
sign_count coded values = disagreements coded (map negative values)

-- what a coded bit costs: the size, where the reliability reads otherwise
unfoldable pub bit_cost : Bool → Float → Float
bit_cost b x = cond (b ⊕ negative x) (magnitude x) zero_f

-- ---- whole numbers
abbrev pub sign_f : Float → Bool
sign_f nan = false
sign_f (inf s) = s
sign_f (fin s m e) = s

-- the size, cut to a whole number
abbrev pub size_f : Float → ℕ
size_f nan = 0
size_f (inf s) = 0
size_f (fin s m e) = m * up e / down e

pub record WholeWithin (b : ℕ) (x : Float) : Type 0 where
  pub whole : HasValue x (sign_f x) (size_f x) 1
  pub small : size_f x ≤ b

abbrev pub AllWhole : List Float → Type 0
AllWhole values = (i : ℕ) → i < length values → WholeWithin (2 ^ 40) (get_or values i nan)

-- bit_cost in whole numbers
unfoldable pub whole_cost : Bool → Float → ℕ
whole_cost b x = cond (b ⊕ negative x) (size_f x) 0
