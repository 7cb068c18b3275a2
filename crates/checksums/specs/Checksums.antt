-- Cyclic checksums: remainders of the division of polynomials over bits. A polynomial is its coefficients, the highest first.
use Rattle.std.specs.Prelude.{Bool, true, false, cond, List, [], ◌∷◌, ◌++◌, ℕ, zero, suc, ◌-◌, eqb, length, take, drop, replicate, Result, Ok, Err}
use Rattle.bits.specs.Bits.{bits, all_binary, ◌⊕◌}
use Rattle.bits.specs.Numbers.{packed, unpacked}
use Rattle.bits.specs.declared.Refusal.{Refusal}
use Rattle.bits.specs.declared.Refusal.TheVariants.{Symbol}

-- g added to the highest coefficients of l
unfoldable pub added : List Bool → List Bool → List Bool
added [] l = l
added (a ∷ g) [] = []
added (a ∷ g) (b ∷ l) = (a ⊕ b) ∷ added g l

-- Long division, k steps: where the highest coefficient is one, the divisor is taken from it. The divisor is a one followed by g.
unfoldable pub divided : List Bool → ℕ → List Bool → List Bool
divided g zero l = l
divided g (suc k) [] = []
divided g (suc k) (false ∷ l) = divided g k l
divided g (suc k) (true ∷ l) = divided g k (added g l)

-- what is left of l, as many coefficients as g has
abbrev pub remainder : List Bool → List Bool → List Bool
remainder g l = divided g (length l - length g) l

-- the checksum of a message: the remainder of the message followed by zeros
abbrev pub check_bits : List Bool → List Bool → List Bool
check_bits g message = remainder g (message ++ replicate (length g) false)

-- the same from a register: its bits are added to the first ones of the message and the zeros
abbrev pub remainder_from : List Bool → ℕ → List Bool → List Bool
remainder_from g register message = remainder g (added (unpacked (length g) register) (message ++ replicate (length g) false))

-- x^16 + x^12 + x^5 + 1, hexadecimal 1021 (IS-136.1-A 4.4.3 and 5.2.6)
abbrev pub ccitt : List Bool
ccitt = bits (0 ∷ 0 ∷ 0 ∷ 1 ∷ 0 ∷ 0 ∷ 0 ∷ 0 ∷ 0 ∷ 0 ∷ 1 ∷ 0 ∷ 0 ∷ 0 ∷ 0 ∷ 1 ∷ [])

-- x^7 + x^5 + x^4 + x^2 + x + 1, hexadecimal b7 (IS-54-B 2.1.3.3.3.3, TIA/EIA-136-410 4.3)
abbrev pub speech : List Bool
speech = bits (0 ∷ 1 ∷ 1 ∷ 0 ∷ 1 ∷ 1 ∷ 1 ∷ [])

-- the register of the 16-bit checksum after some bits, from a given one
unfoldable pub checksum_from : ℕ → List Bool → ℕ
checksum_from register information = packed (remainder_from ccitt register information)

-- the 16-bit checksum of information under a colour code, whose eight bits go first
unfoldable pub checksum_of : List Bool → ℕ → ℕ
checksum_of information dvcc = packed (check_bits ccitt (unpacked 8 dvcc ++ information))

-- whether the 16 bits after the first n of a word are this checksum
unfoldable pub carries : ℕ → List Bool → ℕ → Bool
carries n w checksum = eqb (packed (take 16 (drop n w))) checksum

unfoldable pub checksum7_of : List Bool → ℕ
checksum7_of information = packed (check_bits speech information)

-- ---- answers: a value of bits; Symbol where a byte is none
abbrev pub answer_for_bits : List ℕ → ℕ → Result ℕ Refusal
answer_for_bits l x = cond (all_binary l) (Ok x) (Err Symbol)
