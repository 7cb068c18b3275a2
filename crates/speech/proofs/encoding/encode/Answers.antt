-- `speech::encoding::encode` meets its contract: a refusal, or the protected bits and class two at their places. Assumes nothing.
use mathlib.Core.Path.{sym, ap₂, ◌∙◌}
use Rattle.bits.specs.Bits.{bits}
use Rattle.bits.proofs.Binary.{bytes_bits}
use Rattle.bits.proofs.Writing.{done_end}
use borrow.Author.Rules.{rules}
use Rattle.speech.specs.Classes.{placed}
use Rattle.speech.specs.Frames.{frame_of}
use Rattle.speech.proofs.ClassPlaces.{bytes-placed}
use Rattle.speech.proofs.encoding.encode.Goals as goal

pub returns : goal.returns
unfolding frame_of
returns c =
    done_end c.two_and_room.ensures c.in_ok-two_and_room.was
    (c.merge.ensures
    ∙ ap₂ (placed 0) c.encode_class_one.ensures (sym (bytes_bits c.args.class_two.now (search rules)))
    ∙ sym (bytes-placed _ (bits c.args.class_two.now)))
