-- `bits::pack` meets its contract: the value is the number that the bits passed write. Assumes nothing.
use native.Mathlib.Omega.{arith}
use Rattle.bits.proofs.Packed.{packing_none, packing_room, packing_more, packing_done}
use Rattle.bits.proofs.pack.Goals as goal

pub loop-b-init : goal.loop-b-init
loop-b-init c = packing_none _

pub overflow_mul-value : goal.overflow_mul-value
overflow_mul-value c = omega (arith, packing_room c.loop-b.invariant c.requires (omega arith))

pub overflow_add-value : goal.overflow_add-value
overflow_add-value c = omega (arith, packing_room c.loop-b.invariant c.requires (omega arith))

pub loop-b-preserved : goal.loop-b-preserved
loop-b-preserved c = packing_more c.loop-b.invariant _ c.from.ensures (omega arith)

pub returns : goal.returns
returns c = packing_done c.loop-b.invariant (omega arith)
