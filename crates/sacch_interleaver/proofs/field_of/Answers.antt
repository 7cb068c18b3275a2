-- `sacch_interleaver::field_of` meets its contract: each place passed gave the bit of its weight. Assumes nothing.
use mathlib.Core.Path.{refl}
use Prim.Native.Nat.{◌+◌, ◌-◌, ◌%◌}
use native.Mathlib.Omega.{arith}
use Rattle.sacch_interleaver.specs.Diagonal.{field_of}
use Rattle.sacch_interleaver.proofs.Weighing.{weighing_none, weighing_more, weighing_done}
use Rattle.sacch_interleaver.proofs.field_of.Goals as goal

pub loop-i-init : goal.loop-i-init
loop-i-init c = weighing_none

pub loop-i-preserved : goal.loop-i-preserved
loop-i-preserved c =
    let at = c.loop-i in
    let next = c.args.next in
    weighing_more at.invariant ((at.i + (12 - next)) % 12) (omega arith) (omega arith) (omega arith) (λ t h e. omega arith) refl c.bit_value.ensures

pub returns : goal.returns
unfolding field_of
returns c = weighing_done c.loop-i.invariant (omega arith) _ (λ j h. refl) (λ t. omega arith)
