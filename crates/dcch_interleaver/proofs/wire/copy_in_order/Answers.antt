-- `dcch_interleaver::wire::copy_in_order` meets its contract: each wire has its cell, by rows, and none is left at the end. Assumes nothing.
use Rattle.std.proofs.Common.{◌<◌, length, arith, rules}
use Rattle.dcch_interleaver.proofs.Passing.{even_rows, row_begins, row_ended, rows_passed, copying_none, places_inside, copying_next, copying_done}
use Rattle.dcch_interleaver.proofs.wire.copy_in_order.Goals as goal
use Rattle.dcch_interleaver.proofs.wire.copy_in_order.Goals.{else-loop-cell-test, then-loop-cell-test+else-rows-cell-end, else-loop-row-test, then-loop-row-test+else-rows-row-gt2}

pub loop-first-init : goal.loop-first-init
loop-first-init g c = record { stands = even_rows c.args.format; written = λ d. copying_none c.args.format c.requires.1 }

pub loop-cell-init : goal.loop-cell-init
loop-cell-init g c = record { stands = row_begins c.loop-row.invariant.stands (omega (arith, c.rows-rows.ensures)); written = c.loop-row.invariant.written }

pub offset_bounds-from-read : goal.offset_bounds-from-read
offset_bounds-from-read g c = omega (arith, c.requires.0, (places_inside _ c.loop-cell.invariant.stands (omega (arith, c.requires.0)) c.read_and_written-read.ensures).0)

pub bounds-from-read : goal.bounds-from-read
bounds-from-read g c = omega (arith, c.requires.0, (places_inside _ c.loop-cell.invariant.stands (omega (arith, c.requires.0)) c.read_and_written-read.ensures).0)

pub offset_bounds-to-written : goal.offset_bounds-to-written
offset_bounds-to-written g c =
    let p = places_inside _ c.loop-cell.invariant.stands (omega (arith, c.requires.0)) c.read_and_written-read.ensures in
    let within : c.read_and_written-read.result.1 < length c.loop-cell.to = omega (arith, p.1, c.requires.1) in search rules

pub bounds-to-written : goal.bounds-to-written
bounds-to-written g c = omega (arith, c.requires.1, (places_inside _ c.loop-cell.invariant.stands (omega (arith, c.requires.0)) c.read_and_written-read.ensures).1)

pub overflow_add-wire : goal.overflow_add-wire
overflow_add-wire g c = omega (arith, (places_inside _ c.loop-cell.invariant.stands (omega (arith, c.requires.0)) c.read_and_written-read.ensures).2)

pub loop-cell-preserved : goal.loop-cell-preserved
loop-cell-preserved g c =
    let n = copying_next c.loop-cell.invariant.stands c.loop-cell.invariant.written c.requires.0 c.loop-cell-test.true c.read_and_written-read.ensures c.index-from-read.is in
    record { stands = rw c.rows-rows.ensures n.0; written = n.1 }

pub loop-row-preserved : goal.loop-row-preserved
loop-row-preserved g c =
    elim c.loop-cell-test.branch [
      | else-loop-cell-test w ↦ rw (w.wire-is, w.to-is) (record { stands = row_ended c.loop-cell.invariant.stands (omega (arith, c.requires.0)); written = c.loop-cell.invariant.written })
      | then-loop-cell-test+else-rows-cell-end w ↦
          let n = copying_next c.loop-cell.invariant.stands c.loop-cell.invariant.written c.requires.0 w.loop-cell-test.true w.read_and_written-read.ensures w.index-from-read.is in
          rw (w.wire-is, w.to-is) (record { stands = row_ended n.0 (omega (arith, c.requires.0, c.rows-rows.ensures)); written = n.1 })
    ]

pub loop-first-preserved : goal.loop-first-preserved
loop-first-preserved g c =
    elim c.loop-row-test.branch [
      | else-loop-row-test w ↦
          rw (w.wire-is, w.to-is) (record { stands = rows_passed c.loop-row.invariant.stands (omega (arith, c.rows-rows.ensures)) c.loop-first-test.true; written = c.loop-row.invariant.written })
      | then-loop-row-test+else-rows-row-gt2 w ↦
          rw (w.wire-is, w.to-is)
          (elim w.loop-cell-test.branch [
            | else-loop-cell-test v ↦
                rw (v.wire-is, v.to-is)
                (record {
                  stands = rows_passed (row_ended w.loop-cell.invariant.stands (omega (arith, c.requires.0))) (omega (arith, c.rows-rows.ensures)) c.loop-first-test.true;
                  written = w.loop-cell.invariant.written;
                })
            | then-loop-cell-test+else-rows-cell-end v ↦
                let n = copying_next w.loop-cell.invariant.stands w.loop-cell.invariant.written c.requires.0 v.loop-cell-test.true v.read_and_written-read.ensures v.index-from-read.is in
                rw (v.wire-is, v.to-is)
                (record {
                  stands = rows_passed (row_ended n.0 (omega (arith, c.requires.0, c.rows-rows.ensures))) (omega (arith, c.rows-rows.ensures)) c.loop-first-test.true;
                  written = n.1;
                })
          ])
    ]

pub returns : goal.returns
returns g c d = copying_done (c.loop-first.invariant.written d) (c.loop-first.invariant.stands.ends (omega arith))
