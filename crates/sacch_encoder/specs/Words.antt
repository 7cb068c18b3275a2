-- SACCH words and their rows (IS-54-B 2.7.3.1.2), bits oldest first.
use Rattle.std.specs.Prelude.{Bool, false, List, [], ◌∷◌, ◌++◌, reverse, ℕ, ◌*◌, take, drop}
use Rattle.bits.specs.Numbers.{packed, unpacked}
use Rattle.bits.specs.Places.{listed}
use Rattle.coding.specs.Codes.{coded, dcch}
use Rattle.coding.specs.Registers.{memory_high}
use Rattle.words.specs.Words.{made_of}

-- the 66 bits of a word, whose header is the continuation flag and a reserved zero
abbrev pub word_of : Bool → ℕ → ℕ → List Bool
word_of continuation message dvcc = made_of (continuation ∷ false ∷ []) message dvcc

-- the eleven times six bits of a word, each six as a number
unfoldable pub sixes_of : List Bool → List ℕ
sixes_of w = listed 11 (λ (i : ℕ). packed (take 6 (drop (6 * i) w)))

-- The row of six inputs: their coded bits from a memory. There is no tail, and a word starts from the memory that the last one left.
unfoldable pub coded_row : ℕ → ℕ → ℕ
coded_row memory six = packed (coded dcch (memory_high memory) (unpacked 6 six))

-- the memory after them: the newest five inputs, the newest highest
unfoldable pub memory_after : ℕ → ℕ → ℕ
memory_after memory six = packed (take 5 (reverse (unpacked 6 six) ++ memory_high memory))
