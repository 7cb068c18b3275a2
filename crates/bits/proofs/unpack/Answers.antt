-- `bits::unpack` meets its contract: the places from `i` on hold the lowest bits. Assumes nothing.
use mathlib.Core.Path.{◌∙◌}
use native.Mathlib.Omega.{arith}
use Rattle.bits.proofs.Binary.{flag_byte}
use Rattle.bits.proofs.Packed.{unpacking_none, unpacking_more, unpacking_done}
use Rattle.bits.proofs.unpack.Goals as goal

pub loop-i-init : goal.loop-i-init
loop-i-init c = unpacking_none _ _

pub loop-i-preserved : goal.loop-i-preserved
loop-i-preserved c = unpacking_more c.loop-i.invariant (c.from.ensures ∙ flag_byte _) (omega arith)

pub shape_of-s : goal.shape_of-s
shape_of-s c = c.loop-i.invariant.size

pub returns : goal.returns
returns c = unpacking_done c.loop-i.invariant (omega arith)
