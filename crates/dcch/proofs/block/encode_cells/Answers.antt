-- `dcch::block::encode_cells` meets its contract: the inputs are filled, and coded from state 0. Assumes nothing.
use Rattle.dcch.proofs.Encodings.{cells_coded}
use Rattle.dcch.proofs.Inputs.{filled}
use Rattle.dcch.proofs.block.encode_cells.Goals as goal

pub returns : goal.returns
returns c =
    cells_coded c.args.information.now _ _ (filled c.args.information.now c.requires.0 _ c.copy_from_slice.ensures.after c.from.ensures c.unpack.ensures)
    c.args.crc.dvcc c.args.crc.mode c.sent_checksum-checksum.ensures c.convolutional_encode.ensures
