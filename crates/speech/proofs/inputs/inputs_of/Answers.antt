-- `speech::inputs::inputs_of` meets its contract: the class-one bits among zeros, and then their checksum. Assumes nothing.
use native.Mathlib.Omega.{arith}
use Rattle.speech.proofs.InputBits.{inputs_filled, room_for_parity}
use Rattle.speech.proofs.inputs.inputs_of.Goals as goal

pub unpack_at-requires : goal.unpack_at-requires
unpack_at-requires c = (omega arith, room_for_parity c.args.class_one.now c.requires c.copy_from_slice.ensures.after)

pub returns : goal.returns
returns c = inputs_filled c.args.class_one.now c.requires c.copy_from_slice.ensures.after c.checksum.ensures c.unpack_at.ensures
