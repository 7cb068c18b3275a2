-- `coding::acelp::line_outputs` meets its contract: each turn is one step of the code, from the state that the line shows. Assumes nothing.
use mathlib.Core.Path.{refl}
use native.Mathlib.Omega.{arith}
use Rattle.bits.proofs.Binary.{binary_at}
use Rattle.coding.proofs.Lines.{sending_more, sending_done}
use Rattle.coding.proofs.acelp.line_outputs.Goals as goal

pub state_after-state-requires : goal.state_after-state-requires
state_after-state-requires c =
    let pre = c.requires in (
      binary_at _ pre.2 _ (omega arith),
      binary_at _ pre.2 _ (omega arith),
      binary_at _ pre.2 _ (omega arith),
      binary_at _ pre.2 _ (omega arith),
      binary_at _ pre.2 _ (omega arith),
    )

pub loop-i-preserved : goal.loop-i-preserved
loop-i-preserved c =
    let turn = c.loop-i in
    (refl, sending_more turn.invariant.1 (omega arith) c.state_after-state.ensures.0 c.transition-step.ensures)

pub returns : goal.returns
returns c =
    let pre = c.requires in
    let sent = sending_done c.loop-i.invariant.1 pre.0 pre.2 (omega arith) in
    record { first_after = sent.0; second_after = sent.1 }
