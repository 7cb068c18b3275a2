-- `dcch::block::decode` meets its contract: the end of the decoding of the nearest word. Assumes nothing.
use mathlib.Core.Path.{ap₂, ◌∙◌}
use Prim.Native.Nat.{ℕ}
use lib.ListN.{length}
use Rattle.bits.specs.Arguments.{bits_and_room}
use Rattle.dcch.proofs.Decodings.{asks_finish, settled_end}
use Rattle.dcch.proofs.block.decode.Goals as goal

pub finish_decode-requires : goal.finish_decode-requires
finish_decode-requires c =
    asks_finish c.args.format c.args.block.now c.args.dvcc c.args.mode c.args.information.now
    (c.bits_and_room.ensures
    ∙ ap₂ (λ (n m : ℕ). bits_and_room n c.args.block.now m (length c.args.information.now)) c.encoded_bits-bits.ensures c.information_bits.ensures)
    c.in_ok-bits_and_room.was _ c.encoded_bits-bits.ensures _ c.nearest_word-corrected.auto.word c.nearest_word-corrected.ensures

pub returns : goal.returns
returns c =
    settled_end c.args.format c.args.block.now c.args.dvcc c.args.mode c.args.information.now
    (c.bits_and_room.ensures
    ∙ ap₂ (λ (n m : ℕ). bits_and_room n c.args.block.now m (length c.args.information.now)) c.encoded_bits-bits.ensures c.information_bits.ensures)
    c.in_ok-bits_and_room.was _ c.encoded_bits-bits.ensures _ c.nearest_word-corrected.auto.word c.nearest_word-corrected.ensures c.finish_decode.ensures
