-- `coding::register::step_to` meets its contract: the places below i are right. Assumes nothing.
use Rattle.std.proofs.Common.{◌≡◌, ◌%◌, length, get_or}
use Rattle.std.specs.Int.Bits.{bit_and}
use Rattle.std.specs.Int.Count.{ones}
use Rattle.bits.proofs.Filled.{Filling}
use Rattle.coding.proofs.register.step_to.Given as goal

abbrev pub invariant-loop-i : goal.invariant-loop-i
invariant-loop-i g l =
    (l.step.next ≡ l.next) × Filling (λ i x. x ≡ ones (bit_and l.register (get_or l.fn.generators i 0)) % 2) 0 (length l.fn.generators) l.step.output l.i
