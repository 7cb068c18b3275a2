-- What a call tests first, in document 01's order: each length in the order of the arguments, then the symbols. The first refusal among the tests is the answer.
use Rattle.std.specs.Prelude.{Bool, cond, List, ℕ, eqb, ltb, length, Result, Ok, Err}
use Rattle.bits.specs.Bits.{all_binary}
use Rattle.bits.specs.declared.Refusal.TheVariants.{Length, Symbol}
use Rattle.bits.specs.declared.Refusal.{Refusal}

-- what the tests answer: nothing, or the first refusal
abbrev pub Arguments : Type 0
Arguments = Result (Unit {0}) Refusal

abbrev pub first_refusal : Arguments → Arguments → Arguments
first_refusal (Err why) later = Err why
first_refusal (Ok passed) later = later

-- Length where a slice has not the exact length
abbrev pub exact_of : ℕ → ℕ → Arguments
exact_of expected actual = cond (eqb expected actual) (Ok tt) (Err (Length expected actual))

-- Symbol unless a test is passed
abbrev pub symbol_unless : Bool → Arguments
symbol_unless passed = cond passed (Ok tt) (Err Symbol)

-- Symbol where a byte is no bit
abbrev pub binary_of : List ℕ → Arguments
binary_of l = symbol_unless (all_binary l)

-- Symbol where a number is not below its limit
abbrev pub below_of : ℕ → ℕ → Arguments
below_of limit x = symbol_unless (ltb x limit)

-- n bits
abbrev pub exact_bits : ℕ → List ℕ → Arguments
exact_bits n l = first_refusal (exact_of n (length l)) (binary_of l)

-- n bits, and room for m
abbrev pub bits_and_room : ℕ → List ℕ → ℕ → ℕ → Arguments
bits_and_room n l m room = first_refusal (exact_of n (length l)) (first_refusal (exact_of m room) (binary_of l))

-- n bits, m bits, and room for k
abbrev pub two_and_room : ℕ → List ℕ → ℕ → List ℕ → ℕ → ℕ → Arguments
two_and_room n a m b k room =
    first_refusal (exact_of n (length a)) (first_refusal (exact_of m (length b)) (first_refusal (exact_of k room) (first_refusal (binary_of a) (binary_of b))))
