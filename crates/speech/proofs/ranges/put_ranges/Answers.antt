-- `speech::ranges::put_ranges` meets its contract: the ranges passed hold their bits. Assumes nothing.
use mathlib.Core.Path.{sym}
use Prim.Native.Nat.{ℕ}
use native.Mathlib.Omega.{arith}
use lib.ListN.{length-drop}
use Rattle.speech.proofs.Copying.{copied, putting_read, putting_more, putting_done}
use Rattle.speech.proofs.ranges.put_ranges.Goals as goal

pub slice_bounds-copy_from_slice-end-in-loop-range : goal.slice_bounds-copy_from_slice-end-in-loop-range
slice_bounds-copy_from_slice-end-in-loop-range c =
    omega (arith, putting_read c.loop-range.invariant c.requires.0 (omega arith) c.requires.1, c.len-n.ensures.value)

pub loop-range-preserved : goal.loop-range-preserved
loop-range-preserved c =
    let read = putting_read c.loop-range.invariant c.requires.0 (omega arith) c.requires.1 in
    putting_more c.loop-range.invariant c.requires.0 (omega arith) c.requires.1 c.len-n.ensures.value
    (copied _ _ _ _ (sym c.len-n.ensures.value) (omega arith) (omega (arith, length-drop {A = ℕ}, c.len-n.ensures.value)) c.copy_from_slice.ensures.after)

pub returns : goal.returns
returns c = putting_done c.loop-range.invariant c.requires.0 (omega arith)
