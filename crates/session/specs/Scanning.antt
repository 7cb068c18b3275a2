-- The output of Output.antt byte by byte: what the input so far leaves behind, and what each byte has written. The law `whole` says that it comes to `output`.
use Rattle.std.specs.Prelude.{cond, List, [], ◌∷◌, ◌++◌, ℕ, ◌-◌, eqb, length, take}
use Rattle.session.specs.Output.{State, next, said}

-- the lines that may still be read, the state, and the line so far, of which 137 characters are kept: no answer depends on more
pub record Scan : Type 0 where
  pub left : ℕ
  pub state : State
  pub part : List ℕ

-- the line so far is at its end
unfoldable pub ended : Scan → Scan
ended c = record { left = c.left - 1; state = cond (eqb c.left 0) c.state (next c.state c.part); part = [] }

unfoldable pub end_said : Scan → List ℕ
end_said c = cond (eqb c.left 0) [] (said c.state c.part)

-- it goes on
unfoldable pub grown : Scan → ℕ → Scan
grown c b = record { left = c.left; state = c.state; part = take 137 (c.part ++ (b ∷ [])) }

-- a byte
unfoldable pub byte_seen : Scan → ℕ → Scan
byte_seen c b = cond (eqb b 10) (ended c) (grown c b)

unfoldable pub byte_said : Scan → ℕ → List ℕ
byte_said c b = cond (eqb b 10) (end_said c) []

-- many
unfoldable pub seen : Scan → List ℕ → Scan
seen c [] = c
seen c (b ∷ bs) = seen (byte_seen c b) bs

unfoldable pub bytes_said : Scan → List ℕ → List ℕ
bytes_said c [] = []
bytes_said c (b ∷ bs) = byte_said c b ++ bytes_said (byte_seen c b) bs

-- the input is at its end: a line so far that is not empty counts
unfoldable pub closed : Scan → State
closed c = cond (eqb (length c.part) 0) c.state (ended c).state

unfoldable pub close_said : Scan → List ℕ
close_said c = cond (eqb (length c.part) 0) [] (end_said c)
