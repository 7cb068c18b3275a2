-- `interleaving::interleave` meets its contract: the slot of the even rows and the odd rows. Assumes nothing.
use Rattle.bits.proofs.Writing.{done_end}
use Rattle.interleaving.specs.Slots.{carried}
use Rattle.interleaving.specs.Orders.{at_wire}
use Rattle.interleaving.proofs.Parts.{odd_rows_last}
use Rattle.interleaving.proofs.interleave.Goals as goal

pub returns : goal.returns
unfolding carried
returns g c =
    done_end c.two_and_room.ensures c.in_ok-two_and_room.was (odd_rows_last (λ w. w) (at_wire g.O.SlotOrder.place_of) c.args.previous.now c.args.current.now c.copy_rows.ensures c.copy_rows-2.ensures)
