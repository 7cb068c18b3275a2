-- `sacch_receiver::window::window_bits` meets its contract: the rows passed stand at their places. Assumes nothing.
use mathlib.Core.Path.{ap, ◌∙◌}
use Prim.Native.Nat.{ℕ, ◌+◌, ◌-◌, ◌*◌}
use native.Mathlib.Omega.{arith}
use lib.ListN.{length, take, drop, length-replicate}
use Rattle.bits.specs.Bits.{bytes}
use Rattle.bits.specs.Numbers.{unpacked}
use Rattle.sacch_receiver.proofs.Unrolled.{unrolling_none, unrolling_more, unrolling_done}
use Rattle.sacch_receiver.proofs.window.window_bits.Goals as goal

pub loop-i-init : goal.loop-i-init
loop-i-init c = unrolling_none (length-replicate {A = ℕ} 132 0)

pub loop-i-preserved : goal.loop-i-preserved
loop-i-preserved c =
    let at = c.loop-i in
    unrolling_more at.invariant (omega arith)
    (c.unpack.ensures ∙ ap (λ (row : ℕ). bytes (unpacked (length (take (at.i * 12 + 12 - at.i * 12) (drop (at.i * 12) at.coded))) row)) c.from.ensures)

pub returns : goal.returns
returns c = unrolling_done c.loop-i.invariant (omega arith)
