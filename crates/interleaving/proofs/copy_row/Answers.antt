-- `interleaving::copy_row` meets its contract: the columns passed are copied. Assumes nothing.
use Rattle.std.proofs.Common.{ap, not, arith}
use borrow.Author.Tests.{eq-eqb, ne_eqb}
use Rattle.interleaving.proofs.Orders.{place_at_row, column_carried, column_collected}
use Rattle.interleaving.proofs.copy_row.Goals as goal
use Rattle.interleaving.proofs.copy_row.Goals.{then-this-ne0, else-this-ne0}

pub bounds-from-place : goal.bounds-from-place
bounds-from-place g c = omega (arith, (place_at_row g.met.O.SlotOrder.laws c.requires.0 c.loop-column-test.true c.place-place.ensures).0)

pub bounds-to-place : goal.bounds-to-place
bounds-to-place g c = omega (arith, c.loop-column.invariant.part.size, (place_at_row g.met.O.SlotOrder.laws c.requires.0 c.loop-column-test.true c.place-place.ensures).0)

pub loop-column-preserved : goal.loop-column-preserved
loop-column-preserved g c =
    let laws = g.met.O.SlotOrder.laws in
    elim c.if-this-ne0.branch [
      | then-this-ne0 w ↦
          rw w.to-is (column_carried laws _ (ap not (ne_eqb g.row.CARRIES 0 w.if-this-ne0.true)) c.args.from.now c.requires.0 c.loop-column-test.true c.place-place.ensures c.loop-column.invariant)
      | else-this-ne0 w ↦
          rw w.to-is (column_collected laws _ (ap not (eq-eqb g.row.CARRIES 0 w.if-this-ne0.false)) c.args.from.now c.requires.0 c.loop-column-test.true c.place-place.ensures c.loop-column.invariant)
    ]
