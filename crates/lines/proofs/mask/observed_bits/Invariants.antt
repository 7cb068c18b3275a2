-- `lines::mask::observed_bits` meets its contract: the bits of the digits passed are written. Assumes nothing.
use Rattle.lines.proofs.Masking.{Reading}
use Rattle.lines.proofs.mask.observed_bits.Given as goal

abbrev pub invariant-loop-i : goal.invariant-loop-i
invariant-loop-i l = Reading l.line l.i l.bits
