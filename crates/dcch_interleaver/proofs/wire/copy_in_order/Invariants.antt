-- `dcch_interleaver::wire::copy_in_order` meets its contract: what was passed is copied. Assumes nothing.
use Rattle.std.proofs.Common.{eqb, not}
use Rattle.dcch_interleaver.proofs.Passing.{Passes, Rows, Cells, Copying}
use Rattle.dcch_interleaver.proofs.wire.copy_in_order.Given as goal

abbrev pub invariant-loop-first : goal.invariant-loop-first
invariant-loop-first g l = record {
  stands : Passes l.fn.format l.first l.wire;
  written : (d : _) → Copying (not (eqb g.row.SENDS 0)) l.fn.format d l.from l.to l.wire;
}

abbrev pub invariant-loop-row : goal.invariant-loop-row
invariant-loop-row g l = record {
  stands : Rows l.fn.format l.first l.row l.wire;
  written : (d : _) → Copying (not (eqb g.row.SENDS 0)) l.fn.format d l.from l.to l.wire;
}

abbrev pub invariant-loop-cell : goal.invariant-loop-cell
invariant-loop-cell g l = record {
  stands : Cells l.fn.format l.first l.row l.cell l.wire;
  written : (d : _) → Copying (not (eqb g.row.SENDS 0)) l.fn.format d l.from l.to l.wire;
}
