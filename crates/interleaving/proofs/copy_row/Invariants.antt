-- `interleaving::copy_row` meets its contract: the columns passed are copied. Assumes nothing.
use Rattle.std.proofs.Common.{eqb, not}
use Rattle.interleaving.proofs.Parts.{CopiedColumns}
use Rattle.interleaving.proofs.copy_row.Given as goal

abbrev pub invariant-loop-column : goal.invariant-loop-column
invariant-loop-column g l =
    CopiedColumns (not (eqb g.row.CARRIES 0)) g.O.SlotOrder.place_of g.O.SlotOrder.wire_of l.from l.row l.initial.to l.to l.column
