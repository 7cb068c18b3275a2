-- The checksum as DCCH sends it: the register from 0 over the colour code and then the information, complemented for Broadcast. Assumes nothing.
use mathlib.Core.Path.{◌≡◌, ap}
use mathlib.Core.Bool.{Bool}
use mathlib.Core.List.{List}
use Prim.Native.Nat.{ℕ, ◌<◌}
use native.Mathlib.Omega.{arith}
use Rattle.bits.specs.Numbers.{unpacked}
use Rattle.checksums.specs.Checksums.{checksum_from}
use Rattle.checksums.proofs.Answers.{checksum_below}
use Rattle.checksums.proofs.Runs.{from_colour}
use Rattle.dcch.specs.Crc.{complemented, sent_checksum}
use Rattle.dcch.specs.declared.crc.CrcMode.{CrcMode}
use Rattle.dcch.specs.declared.crc.CrcMode.TheVariants.{Broadcast, Addressed}

module _ (information : List Bool) (dvcc : ℕ) where
  pub gives_checksum : (mode : CrcMode) → complemented mode (checksum_from (checksum_from 0 (unpacked 8 dvcc)) information) ≡ sent_checksum information dvcc mode
  unfolding sent_checksum
  gives_checksum mode = ap (complemented mode) (from_colour information dvcc)

  -- it has 16 bits
  pub sent_below : (mode : CrcMode) → sent_checksum information dvcc mode < 65536
  unfolding sent_checksum
  sent_below Broadcast = omega arith
  sent_below Addressed = checksum_below information dvcc
