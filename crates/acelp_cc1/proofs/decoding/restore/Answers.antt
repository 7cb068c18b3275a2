-- `acelp_cc1::decoding::restore` meets its contract: class one from the inputs, class two from the frame. Assumes nothing.
use mathlib.Core.Path.{sym, ◌∙◌}
use native.Mathlib.Omega.{arith}
use lib.Seq.{length-take-le}
use Rattle.std.proofs.lemmas.Slice.{between_to_end}
use Rattle.bits.proofs.PlacesMoved.{asks_gather}
use Rattle.acelp_cc1.proofs.Placing.{information_size, information_apart}
use Rattle.acelp_cc1.proofs.Restoring.{restored}
use Rattle.acelp_cc1.proofs.decoding.restore.Goals as goal

pub gather-requires : goal.gather-requires
gather-requires c =
    asks_gather _ _ 108 _ _ c.information_positions.ensures information_apart c.told-inputs
    (length-take-le 96 c.args.sorted.now (omega (arith, c.told-sorted)) ∙ sym information_size)

pub returns : goal.returns
returns c =
    restored c.args.inputs.now c.args.frame.now c.args.sorted.now c.told-sorted
    c.information_positions.ensures c.gather.auto.to c.gather.ensures
    (c.copy_from_slice.ensures.after ∙ between_to_end c.args.frame.now 208 _ (omega arith))
