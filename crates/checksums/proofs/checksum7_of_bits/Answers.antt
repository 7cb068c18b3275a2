-- `checksums::checksum7_of_bits` meets its contract: the information is run from zero. Assumes nothing.
use Rattle.checksums.proofs.Answers.{value7}
use Rattle.checksums.proofs.checksum7_of_bits.Goals as goal

pub returns : goal.returns
returns c = value7 c.args.information.now c.run.ensures
