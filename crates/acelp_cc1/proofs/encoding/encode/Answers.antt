-- `acelp_cc1::encoding::encode` meets its contract: a refusal, or the protected bits and class two. Assumes nothing.
use mathlib.Core.Path.{refl, sym, ◌∙◌}
use native.Mathlib.Omega.{arith}
use Rattle.std.proofs.lemmas.Slice.{between_to_end}
use Rattle.bits.proofs.PlacesMoved.{asks_gather}
use Rattle.bits.proofs.Refusing.{passed_room}
use Rattle.bits.proofs.Writing.{done_end}
use Rattle.acelp_cc1.specs.Frames.{speech_order, ordered}
use Rattle.acelp_cc1.proofs.Framing.{inputs_binary, framed}
use Rattle.acelp_cc1.proofs.Placing.{speech_size, speech_apart}
use Rattle.acelp_cc1.proofs.encoding.encode.Goals as goal

pub gather-requires : goal.gather-requires
unfolding speech_order
gather-requires c =
    let p = passed_room 148 c.args.speech.now 260 _ c.bits_and_room.ensures c.in_ok-bits_and_room.was in
    asks_gather _ _ 148 _ _ refl speech_apart p.0 (sym speech_size)

pub send-requires : goal.send-requires
unfolding speech_order ordered
send-requires c =
    let p = passed_room 148 c.args.speech.now 260 _ c.bits_and_room.ensures c.in_ok-bits_and_room.was in
    (inputs_binary c.args.speech.now p.2 c.gather.ensures c.inputs_of.ensures, p.1)

pub returns : goal.returns
unfolding speech_order ordered
returns c =
    let p = passed_room 148 c.args.speech.now 260 _ c.bits_and_room.ensures c.in_ok-bits_and_room.was in
    done_end c.bits_and_room.ensures c.in_ok-bits_and_room.was
    (framed c.args.speech.now p.2 c.gather.ensures c.inputs_of.ensures c.args.frame.now _ (omega arith) c.send.ensures
    (c.copy_from_slice.ensures.after ∙ between_to_end c.gather.new.to 96 148 (omega (arith, c.gather.auto.to))))
