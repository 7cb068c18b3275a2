-- `dcch::crc::Crc::finish_decode` meets its contract: the checksum after the information decides. Assumes nothing.
use Rattle.dcch.proofs.Finishing.{failed_end, taken_end}
use Rattle.dcch.proofs.crc.Crc.finish_decode.Goals as goal

pub returns-then-not-carries : goal.returns-then-not-carries
returns-then-not-carries c =
    failed_end c.args.inputs.now c.args.information.now c.requires.0 _ _ _ c.sent_checksum-checksum.ensures c.carries.ensures c.if-not-carries.true

pub returns : goal.returns
returns c =
    taken_end c.args.inputs.now c.args.information.now c.requires.0 _ _ _ c.sent_checksum-checksum.ensures c.carries.ensures c.if-not-carries.false
    c.copy_from_slice.ensures.after
