-- `checksums::checksum_from_bits` meets its contract: the bits left, into the register, end where all of them end. Assumes nothing.
use Prim.Native.Nat.{◌*◌}
use Rattle.checksums.proofs.Fours.{ByFours}
use Rattle.checksums.proofs.checksum_from_bits.Given as goal

abbrev pub invariant-loop-four : goal.invariant-loop-four
invariant-loop-four l = ByFours l.information l.register l.last (l.four-index * 4)
