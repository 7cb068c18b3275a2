-- Numbers as bits, the first bit highest.
use Rattle.std.specs.Prelude.{Bool, List, [], ◌∷◌, ℕ, zero, suc, ◌+◌, ◌*◌, ◌/◌, ◌^◌, length}
use Rattle.bits.specs.Bits.{bit, byte}

-- the number that bits write
unfoldable pub packed : List Bool → ℕ
packed [] = 0
packed (b ∷ w) = byte b * 2 ^ length w + packed w

-- the lowest n bits of a number
unfoldable pub unpacked : ℕ → ℕ → List Bool
unpacked zero x = []
unpacked (suc n) x = bit (x / 2 ^ n) ∷ unpacked n x
