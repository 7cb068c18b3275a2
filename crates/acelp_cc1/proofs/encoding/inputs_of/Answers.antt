-- `acelp_cc1::encoding::inputs_of` meets its contract: the class-one bits, then the checksum. Assumes nothing.
use mathlib.Core.Path.{refl, ◌∙◌}
use native.Mathlib.Omega.{arith}
use Rattle.bits.proofs.PlacesMoved.{asks_scatter}
use Rattle.acelp_cc1.proofs.Inputs.{room_for_parity, filled}
use Rattle.acelp_cc1.proofs.Placing.{information_size, information_apart}
use Rattle.acelp_cc1.proofs.encoding.inputs_of.Goals as goal

pub scatter-requires : goal.scatter-requires
scatter-requires c =
    asks_scatter _ _ 108 _ _ c.information_positions.ensures information_apart (omega (arith, information_size, c.told-sorted)) refl

pub unpack_at-requires : goal.unpack_at-requires
unpack_at-requires c = (omega arith, room_for_parity c.args.sorted.now _ c.scatter.ensures)

pub returns : goal.returns
returns c =
    filled c.args.sorted.now _ c.scatter.ensures c.information_positions.ensures (c.from.ensures ∙ c.checksum7_of_bits-checksum.ensures) c.unpack_at.ensures
