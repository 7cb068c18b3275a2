-- The words of FACCH and SACCH (IS-54-B 2.7.3.1.1 and 2.7.3.1.2): a header of one or two bits, 48 message bits, and the checksum of both.
-- Bits oldest first.
use Rattle.std.specs.Prelude.{Bool, List, ◌++◌, ℕ, ◌+◌, take, drop}
use Rattle.bits.specs.Numbers.{packed, unpacked}
use Rattle.checksums.specs.Checksums.{checksum_of, carries}

-- the header and the message, the highest bit first
abbrev pub information_of : List Bool → ℕ → List Bool
information_of header message = header ++ unpacked 48 message

-- a word: the information and its checksum under the colour code, the highest bit first
unfoldable pub made_of : List Bool → ℕ → ℕ → List Bool
made_of header message dvcc =
    information_of header message ++ unpacked 16 (checksum_of (information_of header message) dvcc)

-- the message after a header of h bits, as a number with its first bit highest
abbrev pub message_in : ℕ → List Bool → ℕ
message_in h w = packed (take 48 (drop h w))

-- whether the checksum after a header of h bits and the message is theirs
abbrev pub word_valid : ℕ → List Bool → ℕ → Bool
word_valid h w dvcc = carries (h + 48) w (checksum_of (take (h + 48) w) dvcc)
