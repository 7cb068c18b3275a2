-- `soft::reliability::differs_from_sign` meets its contract. Assumes nothing.
use Rattle.std.proofs.Common.{◌∙◌, arith}
use Rattle.std.specs.Float.Ieee.{of_bits}
use Rattle.bits.specs.Bits.{bit}
use Rattle.bits.proofs.Binary.{differ_le}
use Rattle.soft.specs.Reliability.{negative}
use Rattle.soft.proofs.Signs.{differ_byte}
use Rattle.soft.proofs.reliability.differs_from_sign.Goals as goal

pub returns : goal.returns
unfolding negative of_bits
returns c =
    let e = c.from.ensures ∙ differ_byte (bit c.args.sent) (negative c.args.value) in
    (e, omega (arith, differ_le (bit c.args.sent) (negative c.args.value), e))
