-- `interleaving::copy_rows` meets its contract: the rows passed are copied. The loop ends after the last row of its remainder. Assumes nothing.
use Rattle.std.proofs.Common.{arith, eqb, not}
use Rattle.interleaving.proofs.Orders.{wire_low}
use Rattle.interleaving.proofs.Parts.{rows_more, rows_done}
use Rattle.interleaving.proofs.copy_rows.Goals as goal

pub loop-row-preserved : goal.loop-row-preserved
loop-row-preserved g c = rows_more c.loop-row.invariant (omega (arith, c.requires.0)) c.copy_row.ensures

pub returns : goal.returns
returns g c = rows_done c.loop-row.invariant (omega arith) (wire_low g.met.O.SlotOrder.laws (not (eqb g.row.CARRIES 0)))

pub returns-2 : goal.returns-2
returns-2 g c =
    rows_done (rows_more c.loop-row.invariant (omega (arith, c.requires.0)) c.copy_row.ensures) (omega arith) (wire_low g.met.O.SlotOrder.laws (not (eqb g.row.CARRIES 0)))
