-- `dcch::block::encode` meets its contract: what it writes is the interleaved cells. Assumes nothing.
use mathlib.Core.Path.{ap₂, ◌∙◌}
use Prim.Native.Nat.{ℕ}
use lib.ListN.{length}
use Rattle.bits.specs.Arguments.{bits_and_room}
use Rattle.dcch.proofs.Encodings.{done_end}
use Rattle.dcch.proofs.block.encode.Goals as goal

pub returns : goal.returns
returns c =
    done_end c.args.format c.args.information.now c.args.dvcc c.args.mode c.args.block.now
    (c.bits_and_room.ensures
    ∙ ap₂ (λ (n m : ℕ). bits_and_room n c.args.information.now m (length c.args.block.now)) c.information_bits.ensures c.encoded_bits-bits.ensures)
    c.in_ok-bits_and_room.was _ c.encoded_bits-bits.ensures _ c.encode_cells.auto.cells c.encode_cells.ensures (c.interleave.ensures 0)
