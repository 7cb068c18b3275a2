-- Ranges of places of a list, each from its start up to its end.
use Rattle.std.specs.Prelude.{List, [], ◌∷◌, ◌++◌, ℕ, ◌+◌, ◌-◌, ◌≤◌, take, drop}
use Rattle.std.specs.List.{All}
use Rattle.std.specs.declared.ops.Range.{Range}
use Rattle.std.proofs.Math.Seq.{paste}

-- each range lies within n places
abbrev pub Bounds : List (Range ℕ) → ℕ → Type 0
Bounds ranges n = All (λ (r : Range ℕ). (r.start ≤ r.end) × (r.end ≤ n)) ranges

-- how many places the ranges have
unfoldable pub total_of : List (Range ℕ) → ℕ
total_of [] = 0
total_of (r ∷ ranges) = (r.end - r.start) + total_of ranges

-- the ranges of a list, one after the other
unfoldable pub ranges_of : {A : Type 0} → List (Range ℕ) → List A → List A
ranges_of [] l = []
ranges_of (r ∷ ranges) l = take (r.end - r.start) (drop r.start l) ++ ranges_of ranges l

-- a list with bits, in order, in its ranges
unfoldable pub put_ranges : {A : Type 0} → List (Range ℕ) → List A → List A → List A
put_ranges [] bits l = l
put_ranges (r ∷ ranges) bits l = put_ranges ranges (drop (r.end - r.start) bits) (paste l r.start bits (r.end - r.start))
