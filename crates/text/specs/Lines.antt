-- Characters and shapes of lines.
use Rattle.std.specs.Prelude.{◌≡◌, ℕ, ◌+◌, ◌-◌, ◌*◌, ◌≤◌, ◌<◌, Bool, true, false, cond, List, [], ◌∷◌, length, get_or, ltb, eqb}

-- the value of a lower-case hexadecimal digit; 16 of any other byte
unfoldable pub digit_of : ℕ → ℕ
digit_of b = cond (ltb b 48) 16 (cond (ltb b 58) (b - 48) (cond (ltb b 97) 16 (cond (ltb b 103) (b - 87) 16)))

-- the digit at a place of a line, and the number of two digits there
abbrev pub digit_at : List ℕ → ℕ → ℕ
digit_at l k = digit_of (get_or l k 0)

abbrev pub two_at : List ℕ → ℕ → ℕ
two_at l k = digit_at l k * 16 + digit_at l (k + 1)

-- byte b may stand where the shape has p: `#` (35) stands for any digit, and every other character for itself
unfoldable pub stands : ℕ → ℕ → Bool
stands p b = cond (eqb p 35) (ltb (digit_of b) 16) (eqb b p)

-- the text has the shape: as long, and fit at each place
unfoldable pub shaped : List ℕ → List ℕ → Bool
shaped [] [] = true
shaped [] (b ∷ bs) = false
shaped (p ∷ ps) [] = false
shaped (p ∷ ps) (b ∷ bs) = cond (stands p b) (shaped ps bs) false

-- a line that starts at `from` ends at `end`: at the first LF (10) from there on, or at the end of the text
pub record LineEnd (text : List ℕ) (from end : ℕ) : Type 0 where
  pub low : from ≤ end
  pub high : end ≤ length text
  pub inside : (k : ℕ) → k < end → from ≤ k → get_or text k 0 ≡ 10 → ⊥
  pub stops : end < length text → get_or text end 0 ≡ 10
