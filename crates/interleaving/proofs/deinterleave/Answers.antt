-- `interleaving::deinterleave` meets its contract: the frame of the odd rows of one slot and the even rows of the next. Assumes nothing.
use Rattle.bits.proofs.Writing.{done_end}
use Rattle.interleaving.specs.Slots.{collected}
use Rattle.interleaving.proofs.Parts.{even_rows_last}
use Rattle.interleaving.proofs.deinterleave.Goals as goal

pub returns : goal.returns
unfolding collected
returns g c =
    let wire_of = g.O.SlotOrder.wire_of in
    done_end c.two_and_room.ensures c.in_ok-two_and_room.was (even_rows_last wire_of wire_of c.args.second.now c.args.first.now c.copy_rows.ensures c.copy_rows-2.ensures)
