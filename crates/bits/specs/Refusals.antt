-- The refusals of document 01 by number.
use Rattle.std.specs.Prelude.{ℕ, List, ◌++◌, codes}
use Rattle.std.specs.Fmt.{decimal}
use Rattle.bits.specs.declared.Refusal.{Refusal}
use Rattle.bits.specs.declared.Refusal.TheVariants.{Length, Symbol, Crc, InsufficientObservations, Ambiguous, Reserved, Line, State}

-- document 01, 'Numbers from the input' and 'Numbers from the state'
abbrev pub number_of : Refusal → ℕ
number_of (Length expected actual) = 1
number_of Symbol = 2
number_of Crc = 3
number_of InsufficientObservations = 4
number_of Ambiguous = 5
number_of Reserved = 6
number_of Line = 7
number_of State = 8

-- the lengths that Length carries, expected and actual; zero elsewhere
abbrev pub expected_of : Refusal → ℕ
expected_of (Length expected actual) = expected
expected_of Symbol = 0
expected_of Crc = 0
expected_of InsufficientObservations = 0
expected_of Ambiguous = 0
expected_of Reserved = 0
expected_of Line = 0
expected_of State = 0

abbrev pub actual_of : Refusal → ℕ
actual_of (Length expected actual) = actual
actual_of Symbol = 0
actual_of Crc = 0
actual_of InsufficientObservations = 0
actual_of Ambiguous = 0
actual_of Reserved = 0
actual_of Line = 0
actual_of State = 0

-- what a refusal says to a reader
abbrev pub message_of : Refusal → List ℕ
message_of (Length expected actual) = codes "a length of " ++ (decimal actual ++ (codes " where it must be " ++ decimal expected))
message_of Symbol = codes "a byte that is no bit, or a number out of its range"
message_of Crc = codes "a wrong checksum, or a reliability that is not finite"
message_of InsufficientObservations = codes "too few observed bits"
message_of Ambiguous = codes "two words equally near"
message_of Reserved = codes "a reserved bit that is set"
message_of Line = codes "a line of none of the forms"
message_of State = codes "a state out of its range"
