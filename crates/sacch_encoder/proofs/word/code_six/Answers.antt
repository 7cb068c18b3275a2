-- `sacch_encoder::word::code_six` meets its contract: each turn is one step more of the coder's run. Assumes nothing.
use mathlib.Core.Path.{◌∙◌}
use native.Mathlib.Omega.{arith}
use Rattle.sacch_encoder.proofs.Rows.{row_coded, memory_coded}
use Rattle.sacch_encoder.proofs.Coding.{coding_none, coding_room, coding_more, coding_done}
use Rattle.sacch_encoder.proofs.word.code_six.Goals as goal

pub loop-bit-init : goal.loop-bit-init
loop-bit-init c = coding_none c.requires

pub transition-step-requires : goal.transition-step-requires
transition-step-requires c = c.loop-bit.invariant.run.below

pub overflow_mul-row : goal.overflow_mul-row
overflow_mul-row c = omega (arith, coding_room c.loop-bit.invariant c.told-six (omega arith))

pub overflow_add-row : goal.overflow_add-row
overflow_add-row c = omega (arith, coding_room c.loop-bit.invariant c.told-six (omega arith))

pub loop-bit-preserved : goal.loop-bit-preserved
loop-bit-preserved c = coding_more c.loop-bit.invariant c.told-six (omega arith) c.transition-step.ensures c.from.ensures

pub returns : goal.returns
returns c =
    let at = c.loop-bit.invariant in
    let run = coding_done at c.told-six (omega arith) in
    (at.so_far ∙ row_coded c.args.six.now c.told-six run, memory_coded c.args.six.now c.told-six run)
