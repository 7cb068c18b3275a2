-- The checksum as DCCH sends it (IS-136.1-A 4.4.3 and 5.2.6).
use Rattle.std.specs.Prelude.{Bool, List, ℕ, ◌-◌, take}
use Rattle.checksums.specs.Checksums.{checksum_of, carries}
use Rattle.dcch.specs.declared.crc.CrcMode.{CrcMode}
use Rattle.dcch.specs.declared.crc.CrcMode.TheVariants.{Broadcast, Addressed}

-- F-BCCH sends the complement
abbrev pub complemented : CrcMode → ℕ → ℕ
complemented Broadcast x = 65535 - x
complemented Addressed x = x

-- the checksum of information under a colour code, as it is sent
unfoldable pub sent_checksum : List Bool → ℕ → CrcMode → ℕ
sent_checksum information dvcc mode = complemented mode (checksum_of information dvcc)

-- whether the checksum after the first n bits of a block's inputs is theirs
abbrev pub block_valid : ℕ → List Bool → ℕ → CrcMode → Bool
block_valid n inputs dvcc mode = carries n inputs (sent_checksum (take n inputs) dvcc mode)
