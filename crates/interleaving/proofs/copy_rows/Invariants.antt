-- `interleaving::copy_rows` meets its contract: the rows passed are copied. Assumes nothing.
use Rattle.std.proofs.Common.{eqb, get_or, not}
use Rattle.interleaving.specs.Parts.{wire_for, read_for}
use Rattle.interleaving.proofs.Parts.{Rows}
use Rattle.interleaving.proofs.copy_rows.Given as goal

abbrev pub invariant-loop-row : goal.invariant-loop-row
invariant-loop-row g l =
    let carries = not (eqb g.row.CARRIES 0) in
    let order = g.O.SlotOrder in
    Rows (wire_for carries order.wire_of) (λ p. get_or l.from (read_for carries order.place_of order.wire_of p) 0) l.step l.first l.initial.to l.to l.row
