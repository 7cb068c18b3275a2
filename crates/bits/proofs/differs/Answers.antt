-- `bits::differs` meets its contract. Assumes nothing.
use mathlib.Core.Path.{◌∙◌}
use native.Mathlib.Omega.{arith}
use Rattle.bits.specs.Bits.{bit}
use Rattle.bits.proofs.Binary.{differs_low, differ_le}
use Rattle.bits.proofs.differs.Goals as goal

pub returns : goal.returns
returns c =
    let e = c.from.ensures ∙ differs_low c.args.a c.args.b in
    (e, omega (arith, differ_le (bit c.args.a) (bit c.args.b), e))
