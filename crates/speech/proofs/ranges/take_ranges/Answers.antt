-- `speech::ranges::take_ranges` meets its contract: the ranges passed are written. Assumes nothing.
use mathlib.Core.Path.{sym}
use Prim.Native.Nat.{ℕ}
use native.Mathlib.Omega.{arith}
use lib.ListN.{length-drop}
use Rattle.speech.proofs.Copying.{copied, run_within, taking_room, taking_more, taking_done}
use Rattle.speech.proofs.ranges.take_ranges.Goals as goal

pub slice_bounds-copy_from_slice-end : goal.slice_bounds-copy_from_slice-end
slice_bounds-copy_from_slice-end c = omega (arith, taking_room c.loop-range.invariant c.requires.0 (omega arith), c.len-n.ensures.value)

pub loop-range-preserved : goal.loop-range-preserved
loop-range-preserved c =
    let room = run_within c.args.ranges.now c.loop-range.range-index (omega arith) c.requires.0 in
    taking_more c.loop-range.invariant c.requires.0 (omega arith) c.len-n.ensures.value
    (copied _ _ _ _ (omega arith) (sym c.len-n.ensures.value) (omega (arith, length-drop {A = ℕ}, c.len-n.ensures.value)) c.copy_from_slice.ensures.after)

pub returns : goal.returns
returns c = taking_done c.loop-range.invariant c.requires.0 (omega arith)
