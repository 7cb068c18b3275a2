-- `acelp_cc1::decoding::decode` meets its contract: a refusal, two nearest words, or one. Assumes nothing.
use mathlib.Core.Path.{refl, sym, ◌∙◌}
use native.Mathlib.Omega.{arith}
use lib.Seq.{length-take-le}
use Rattle.bits.proofs.LentPart.{part_length}
use Rattle.bits.proofs.PlacesMoved.{asks_scatter}
use Rattle.bits.proofs.Refusing.{passed_room}
use Rattle.acelp_cc1.specs.Frames.{speech_order}
use Rattle.acelp_cc1.proofs.Placing.{speech_size, speech_apart}
use Rattle.acelp_cc1.proofs.Restoring.{accepted_end}
use Rattle.acelp_cc1.proofs.Settling.{word_binary, tied_end, alone_end}
use Rattle.acelp_cc1.proofs.decoding.decode.Goals as goal

pub slice_bounds-punctured-end : goal.slice_bounds-punctured-end
slice_bounds-punctured-end c =
    let p = passed_room 260 c.args.frame.now 148 _ c.bits_and_room.ensures c.in_ok-bits_and_room.was in
    part_length 208 c.args.frame.now (omega (arith, p.0))

pub punctured-found-requires : goal.punctured-found-requires
punctured-found-requires c =
    let p = passed_room 260 c.args.frame.now 148 _ c.bits_and_room.ensures c.in_ok-bits_and_room.was in
    (length-take-le 208 c.args.frame.now (omega (arith, p.0)), refl)

pub returns-then-found : goal.returns-then-found
returns-then-found c =
    tied_end c.args.frame.now c.args.speech.now (sym c.bits_and_room.ensures ∙ c.in_ok-bits_and_room.was) c.punctured-found.ensures c.if-found.true

pub scatter-requires : goal.scatter-requires
unfolding speech_order
scatter-requires c =
    let p = passed_room 260 c.args.frame.now 148 _ c.bits_and_room.ensures c.in_ok-bits_and_room.was in
    asks_scatter _ _ 148 _ _ refl speech_apart (omega (arith, speech_size, c.restore.array_long)) p.1

pub slice_bounds-checksum7_of_bits-end : goal.slice_bounds-checksum7_of_bits-end
slice_bounds-checksum7_of_bits-end c = part_length 48 c.restore.new.sorted (omega (arith, c.restore.array_long))

pub returns : goal.returns
unfolding speech_order
returns c =
    let p = passed_room 260 c.args.frame.now 148 _ c.bits_and_room.ensures c.in_ok-bits_and_room.was in
    let passed = sym c.bits_and_room.ensures ∙ c.in_ok-bits_and_room.was in
    alone_end c.args.frame.now c.args.speech.now passed c.punctured-found.ensures c.if-found.false
    (accepted_end _ c.args.frame.now (word_binary c.args.frame.now c.args.speech.now passed c.punctured-found.ensures) p.2 c.restore.ensures c.args.speech.now p.1
    c.pack_at.ensures (c.from.ensures ∙ c.checksum7_of_bits-checksum.ensures) refl c.scatter.ensures)
