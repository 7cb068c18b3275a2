-- What a line asks for (document 01, 'The line program `frames`'), by its kind (text/specs/LineKinds.antt) and its form.
use Rattle.std.specs.Prelude.{◌≡◌, cond, List, [], ◌∷◌, ◌++◌, ℕ, ◌+◌, ◌*◌, ◌<◌, length, replicate}
use Rattle.text.specs.Lines.{digit_at, two_at, shaped}
use Rattle.text.specs.LineKinds.{kind_of}
use Rattle.text.specs.declared.kind.LineKind.{LineKind}
use Rattle.text.specs.declared.kind.LineKind.TheVariants as kind
use Rattle.lines.specs.declared.command.Command.{Command}
use Rattle.lines.specs.declared.command.Command.TheVariants.{Blank, Sacch, Discontinuity, Facch, Unknown}

-- ---- the forms
-- Lower-case hexadecimal, one space between parts: `S dd fff`, `D`, and `F dd b m` with 65 digits of bits and 65 of mask. `#` (35) stands for a digit.
unfoldable pub sacch_shape : List ℕ
sacch_shape = 83 ∷ 32 ∷ 35 ∷ 35 ∷ 32 ∷ 35 ∷ 35 ∷ 35 ∷ []

unfoldable pub discontinuity_shape : List ℕ
discontinuity_shape = 68 ∷ []

unfoldable pub facch_shape : List ℕ
facch_shape = 70 ∷ 32 ∷ 35 ∷ 35 ∷ 32 ∷ (replicate 65 35 ++ 32 ∷ replicate 65 35)

-- the number of three digits at a place of a line
abbrev pub three_at : List ℕ → ℕ → ℕ
three_at l k = two_at l k * 16 + digit_at l (k + 2)

-- what a line of one of the forms asks for; one of any other is unknown
unfoldable pub by_form : List ℕ → Command
by_form l =
    cond (shaped sacch_shape l) (Sacch (two_at l 2) (three_at l 5))
    (cond (shaped discontinuity_shape l) Discontinuity
    (cond (shaped facch_shape l) (Facch (two_at l 2))
    Unknown))

-- a line that is too long is unknown, whatever it holds; a blank one is skipped; of any other the form decides
unfoldable pub by_kind : LineKind → List ℕ → Command
by_kind kind.TooLong l = Unknown
by_kind kind.Blank l = Blank
by_kind kind.Filled l = by_form l

unfoldable pub parsed : List ℕ → Command
parsed l = by_kind (kind_of l) l

-- ---- what the forms say of the places that are read as numbers
pub record SacchLine (l : List ℕ) : Type 0 where
  pub long : length l ≡ 8
  pub d2 : digit_at l 2 < 16
  pub d3 : digit_at l 3 < 16
  pub d5 : digit_at l 5 < 16
  pub d6 : digit_at l 6 < 16
  pub d7 : digit_at l 7 < 16

pub record FacchLine (l : List ℕ) : Type 0 where
  pub long : length l ≡ 136
  pub d2 : digit_at l 2 < 16
  pub d3 : digit_at l 3 < 16
