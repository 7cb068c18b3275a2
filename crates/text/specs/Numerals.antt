-- Numbers as text, in lower case.
use Rattle.std.specs.Prelude.{cond, List, [], ◌∷◌, ◌++◌, ℕ, zero, suc, ◌+◌, ◌/◌, ◌%◌, ltb}

-- the character of a digit below 16, in lower case
unfoldable pub glyph : ℕ → ℕ
glyph d = cond (ltb d 10) (48 + d) (87 + d)

-- the last k digits of n in a base, the highest first
unfoldable pub digits : ℕ → ℕ → ℕ → List ℕ
digits b zero n = []
digits b (suc k) n = digits b k (n / b) ++ (glyph (n % b) ∷ [])

-- how many decimal digits n has, at most k
unfoldable pub places_in : ℕ → ℕ → ℕ
places_in zero n = 0
places_in (suc k) n = cond (ltb n 10) 1 (places_in k (n / 10) + 1)

-- a number below 10^20 in decimal, with no zeros before it
unfoldable pub decimal : ℕ → List ℕ
decimal n = digits 10 (places_in 20 n) n

-- a space and k hexadecimal digits
unfoldable pub hexadecimal : ℕ → ℕ → List ℕ
hexadecimal k n = 32 ∷ digits 16 k n
