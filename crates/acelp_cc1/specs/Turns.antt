-- Bytes sent by turns.
use Rattle.std.specs.Prelude.{List, [], ◌∷◌}

-- two lists by turns
unfoldable pub by_turns : {A : Type 0} → List A → List A → List A
by_turns [] l = []
by_turns (x ∷ k) [] = []
by_turns (x ∷ k) (y ∷ l) = x ∷ y ∷ by_turns k l
