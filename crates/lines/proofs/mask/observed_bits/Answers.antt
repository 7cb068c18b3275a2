-- `lines::mask::observed_bits` meets its contract: the bits of the digits passed are written. Assumes nothing.
use native.Mathlib.Omega.{arith}
use Rattle.lines.proofs.Masking.{digit_read, reading_done, reading_more, reading_none}
use Rattle.lines.proofs.mask.observed_bits.Goals as goal

pub loop-i-init : goal.loop-i-init
loop-i-init c = reading_none c.args.line.now

pub loop-i-preserved : goal.loop-i-preserved
loop-i-preserved c =
    reading_more _ c.requires c.loop-i.invariant _ _ (omega arith) (digit_read _ _ c.digit.ensures c.unwrap_or-d.ensures)
    (digit_read _ _ c.digit-in-loop-i.ensures c.unwrap_or-mask.ensures) c.observed.ensures c.observed-in-loop-i.ensures c.observed-in-loop-i-2.ensures c.observed-in-loop-i-3.ensures

pub returns : goal.returns
returns c = reading_done _ c.requires c.loop-i.invariant (omega arith)
