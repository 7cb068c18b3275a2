-- Bits, bits as bytes 0 and 1, and where two lists of bits differ.
use Rattle.std.specs.Prelude.{Bool, true, false, cond, not, List, [], ◌∷◌, map, ℕ, ◌+◌, ◌%◌, eqb, ltb, Option}
use Rattle.std.specs.List.{list_all}
use Rattle.std.specs.Ordering.{partial_lt}
use Rattle.std.specs.declared.cmp.Ordering.{Ordering}

-- a bit as a byte
abbrev pub byte : Bool → ℕ
byte false = 0
byte true = 1

-- a byte as a bit: its lowest bit, and so the bit itself of a byte 0 or 1
abbrev pub bit : ℕ → Bool
bit n = eqb (n % 2) 1

abbrev pub bytes : List Bool → List ℕ
bytes w = map byte w

abbrev pub bits : List ℕ → List Bool
bits l = map bit l

-- every value is less than a limit, by an order
unfoldable pub all_less : {A : Type 0} → (A → A → Option Ordering) → A → List A → Bool
all_less order limit l = list_all (λ x. partial_lt order x limit) l

-- every number is below n
unfoldable pub all_below : ℕ → List ℕ → Bool
all_below n [] = true
all_below n (x ∷ l) = cond (ltb x n) (all_below n l) false

-- every byte is 0 or 1
abbrev pub all_binary : List ℕ → Bool
all_binary l = all_below 2 l

-- the sum modulo 2 of two bits
infixl 25 ◌⊕◌
abbrev pub ◌⊕◌ : Bool → Bool → Bool
false ⊕ b = b
true ⊕ b = not b

-- the sum of f over the places of two lists, up to the end of the shorter
unfoldable pub tally : {A B : Type 0} → (A → B → ℕ) → List A → List B → ℕ
tally f [] ys = 0
tally f (x ∷ xs) [] = 0
tally f (x ∷ xs) (y ∷ ys) = f x y + tally f xs ys

-- 1 where two bits differ
abbrev pub disagreement : Bool → Bool → ℕ
disagreement a b = byte (a ⊕ b)

-- the number of places where two lists of bits differ
abbrev pub disagreements : List Bool → List Bool → ℕ
disagreements xs ys = tally disagreement xs ys
