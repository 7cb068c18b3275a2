-- IS-54-B 2.7.3.1.2.1: bit j of the row of slot m is sent in slot m + j.
-- A row is the twelve coded bits of one slot's six inputs; a field is what one slot sends. Both are numbers of twelve bits, the first bit highest.
use Rattle.std.specs.Prelude.{Bool, List, ◌++◌, ℕ, ◌+◌, ◌-◌, ◌/◌, ◌%◌, ◌^◌, get_or, replicate}
use Rattle.bits.specs.Bits.{all_below, bit}
use Rattle.bits.specs.Numbers.{packed}
use Rattle.bits.specs.Places.{listed}

-- bit j of a row or field
abbrev pub bit_of : ℕ → ℕ → Bool
bit_of x j = bit (x / 2 ^ (11 - j))

-- ---- rings of twelve: from the place `next` on and round, the stored numbers, oldest first
-- the field of the newest row's slot: its bit j is bit j of the row j slots before
unfoldable pub field_of : List ℕ → ℕ → ℕ
field_of rows next = packed (listed 12 (λ (j : ℕ). bit_of (get_or rows ((next + (11 - j)) % 12) 0) j))

-- the row that twelve fields complete: its bit j is bit j of the field j slots after the oldest
unfoldable pub row_of : List ℕ → ℕ → ℕ
row_of fields next = packed (listed 12 (λ (j : ℕ). bit_of (get_or fields ((next + j) % 12) 0) j))

-- a ring from its oldest number on, with room for those of eleven slots more
unfoldable pub laid_out : List ℕ → ℕ → List ℕ
laid_out ring next = listed 12 (λ (k : ℕ). get_or ring ((next + k) % 12) 0) ++ replicate 11 0

-- every row or field has twelve bits
abbrev pub all_twelve : List ℕ → Bool
all_twelve l = all_below 4096 l
