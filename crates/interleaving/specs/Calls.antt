-- What a call over slots tests first.
use Rattle.std.specs.Prelude.{List, ℕ}
use Rattle.bits.specs.Arguments.{Arguments, two_and_room}

-- two slices of 260 bits and room for a third
abbrev pub two_arguments : List ℕ → List ℕ → ℕ → Arguments
two_arguments a b room = two_and_room 260 a 260 b 260 room
