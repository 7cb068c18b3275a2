-- `place` of FACCH's slot order meets its contract: one way out for each rule of the table. Assumes nothing.
use Rattle.std.proofs.Common.{sym, ap, ◌∙◌, arith}
use Rattle.facch_interleaver.specs.Wire.{place_of}
use Rattle.facch_interleaver.proofs.Columns.{first_row_lem, early_column, column_three_start, column_three_end_lem, late_column}
use Rattle.facch_interleaver.proofs.FacchOrderSlotOrder.place.Goals as goal

pub returns-then-row-eq0 : goal.returns-then-row-eq0
returns-then-row-eq0 c = first_row_lem _ c.requires.1 ∙ ap (λ row. place_of row c.args.column) (sym c.if-row-eq0.true)

pub returns-in-3 : goal.returns-in-3
returns-in-3 c =
    column_three_start _ (omega arith) c.requires.0 c.if-row-lt-COLUMN_THREE_CHANGE_ROW.true ∙ sym (ap (place_of c.args.row) c.in-3.is)

pub returns-in-3-2 : goal.returns-in-3-2
returns-in-3-2 c =
    column_three_end_lem _ (omega arith) c.requires.0 c.if-row-lt-COLUMN_THREE_CHANGE_ROW.false ∙ sym (ap (place_of c.args.row) c.in-3.is)

pub returns-in-0-to-2 : goal.returns-in-0-to-2
returns-in-0-to-2 c = early_column _ (omega arith) c.requires.0 _ (omega arith)

pub returns-in_default : goal.returns-in_default
returns-in_default c = late_column _ (omega arith) c.requires.0 _ (omega arith) c.requires.1
