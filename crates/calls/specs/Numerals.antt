-- The numbers that words of a line write, as the program read them that first answered stored calls.
use Rattle.std.specs.Prelude.{◌≡◌, ℕ, ◌+◌, ◌*◌, ◌<◌, List, Result, MatchResult, All, cond, fold, length, ltb}
use Rattle.text.specs.Lines.{digit_of}
use Rattle.calls.specs.declared.errors.LineError.{LineError}
use Rattle.calls.specs.declared.errors.LineError.TheVariants.{NoCall}

-- one more digit, which is dropped where the number has come to a bound
abbrev pub with_digit : ℕ → ℕ → ℕ → ℕ → ℕ
with_digit base bound n byte = cond (ltb n bound) (n * base + digit_of byte) n

abbrev pub numeral_of : ℕ → ℕ → List ℕ → ℕ
numeral_of base bound word = fold (with_digit base bound) 0 word

-- a number has characters, and all of them are digits
abbrev pub IsNumeral : List ℕ → Type 0
IsNumeral word = (0 < length word) × All (λ character. digit_of character < 16) word

-- what is read is the number; a word that is none, and no other, is no call
abbrev pub Reads : ℕ → ℕ → List ℕ → Result ℕ LineError → Type 0
Reads base bound word result =
    MatchResult result (λ n. IsNumeral word × (n ≡ numeral_of base bound word)) (λ error. (¬ (IsNumeral word)) × (error ≡ NoCall))
