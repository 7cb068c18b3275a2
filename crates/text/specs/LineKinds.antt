-- What a line is before its form is read (document 01, 'The line program `frames`', and request 12 of document 02).
-- A line is its bytes up to LF, without it. A character is a byte, a space the byte 32.
use Rattle.std.specs.Prelude.{◌≡◌, Bool, true, false, cond, List, [], ◌∷◌, ℕ, ◌≤◌, eqb, ltb, length, replicate}
use Rattle.text.specs.declared.kind.LineKind.{LineKind}
use Rattle.text.specs.declared.kind.LineKind.TheVariants.{TooLong, Blank, Filled}

-- a line of no characters or only spaces
unfoldable pub blank : List ℕ → Bool
blank [] = true
blank (b ∷ bs) = cond (eqb b 32) (blank bs) false

-- Length goes first: a line above 136 characters is too long, whatever they are. Of the others one of no characters or only spaces is blank.
unfoldable pub kind_of : List ℕ → LineKind
kind_of l = cond (ltb 136 (length l)) TooLong (cond (blank l) Blank Filled)

-- no characters, or up to 136 spaces: just such a line is blank (`kind_spaces`, `blank_only`)
abbrev pub ShortBlank : List ℕ → Type 0
ShortBlank l = (length l ≤ 136) × (l ≡ replicate (length l) 32)
