-- The three block formats (IS-136.1-A 4.4.3).
use Rattle.std.specs.Prelude.{ℕ}
use Rattle.dcch_interleaver.specs.declared.BlockFormat.{BlockFormat}
use Rattle.dcch_interleaver.specs.declared.BlockFormat.TheVariants.{Forward, ReverseNormal, ReverseAbbreviated}

abbrev pub encoded_bits : BlockFormat → ℕ
encoded_bits Forward = 260
encoded_bits ReverseNormal = 244
encoded_bits ReverseAbbreviated = 200

abbrev pub information_bits : BlockFormat → ℕ
information_bits Forward = 109
information_bits ReverseNormal = 101
information_bits ReverseAbbreviated = 79

-- the rows of the interleaver
abbrev pub rows_of : BlockFormat → ℕ
rows_of Forward = 13
rows_of ReverseNormal = 12
rows_of ReverseAbbreviated = 12
