-- The bits of an `F` line (document 01, 'The line program `frames`').
use Rattle.std.specs.Prelude.{Bool, cond, List, [], ◌∷◌, ◌++◌, ℕ, ◌+◌, take, drop}
use Rattle.bits.specs.Bits.{byte}
use Rattle.bits.specs.Numbers.{unpacked}
use Rattle.text.specs.Lines.{digit_of}

-- the bits that digits write, four each, the first sent bit highest
unfoldable pub digit_bits : List ℕ → List Bool
digit_bits [] = []
digit_bits (d ∷ ds) = unpacked 4 (digit_of d) ++ digit_bits ds

-- bits as bytes where the mask has a one; 2, which is not observed, where it has a zero: there the bit is ignored
unfoldable pub masked : List Bool → List Bool → List ℕ
masked [] ms = []
masked (b ∷ bs) [] = []
masked (b ∷ bs) (m ∷ ms) = cond m (byte b) 2 ∷ masked bs ms

unfoldable pub observed_bits : List ℕ → List ℕ
observed_bits l = masked (digit_bits (take 65 (drop 5 l))) (digit_bits (take 65 (drop 71 l)))

-- the ones of a mask
unfoldable pub ones_in : List Bool → ℕ
ones_in [] = 0
ones_in (m ∷ ms) = byte m + ones_in ms

-- and those of an `F` line's mask
unfoldable pub mask_ones : List ℕ → ℕ
mask_ones l = ones_in (digit_bits (take 65 (drop 71 l)))
