-- The shift register that divides as the bits come in. A register of n bits is a number; its highest bit is divided first.
use Rattle.std.specs.Prelude.{Bool, false, cond, List, [], ◌∷◌, ◌++◌, ℕ}
use Rattle.bits.specs.Bits.{◌⊕◌}
use Rattle.bits.specs.Numbers.{packed, unpacked}
use Rattle.checksums.specs.Checksums.{added, remainder_from}

-- one bit in: the register moves up, and where the bit that falls out differs from the one that comes in, the divisor is added
unfoldable pub stepped : List Bool → List Bool → Bool → List Bool
stepped g [] b = []
stepped g (h ∷ t) b = cond (h ⊕ b) (added g (t ++ (false ∷ []))) (t ++ (false ∷ []))

unfoldable pub machine : List Bool → List Bool → List Bool → List Bool
machine g r [] = r
machine g r (b ∷ u) = machine g (stepped g r b) u

-- the register of n bits after the bits u
unfoldable pub register_after : ℕ → ℕ → ℕ → List Bool → ℕ
register_after n polynomial register u = packed (remainder_from (unpacked n polynomial) register u)
