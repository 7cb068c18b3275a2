-- `sacch_encoder::word::fields_of` meets its contract: the places filled so far hold their slots' fields. Assumes nothing.
use mathlib.Core.Path.{◌≡◌, ap, ◌∙◌}
use Prim.Native.Nat.{ℕ, ◌+◌, ◌-◌}
use native.Mathlib.Omega.{arith}
use lib.ListN.{take, drop, length-replicate}
use borrow.Rule.Slice.PartMut.{mid_len}
use Rattle.bits.proofs.Filled.{filling_none, filling_more, filling_done}
use Rattle.sacch_interleaver.specs.Diagonal.{field_of}
use Rattle.sacch_encoder.proofs.word.fields_of.Goals as goal

twelve : (i : ℕ) → i + 13 - (i + 1) ≡ 12
twelve i = omega arith

pub loop-i-init : goal.loop-i-init
loop-i-init c = filling_none (length-replicate {A = ℕ} 11 0)

pub field_of-requires : goal.field_of-requires
field_of-requires c =
    let i = c.loop-i.i in
    (mid_len (i + 1) (i + 13) c.args.run.now (omega arith) ∙ twelve i, omega arith)

pub loop-i-preserved : goal.loop-i-preserved
loop-i-preserved c =
    let at = c.loop-i in
    filling_more at.invariant _ (omega arith) (c.field_of.ensures ∙ ap (λ (n : ℕ). field_of (take n (drop (at.i + 1) c.args.run.now)) 0) (twelve at.i))

pub returns : goal.returns
returns c = let i = c.loop-i.invariant in (i.size, filling_done i (omega arith))
