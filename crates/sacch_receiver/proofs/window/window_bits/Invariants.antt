-- `sacch_receiver::window::window_bits` meets its contract: the rows passed stand at their places. Assumes nothing.
use Rattle.sacch_receiver.proofs.Unrolled.{Unrolling}
use Rattle.sacch_receiver.proofs.window.window_bits.Given as goal

abbrev pub invariant-loop-i : goal.invariant-loop-i
invariant-loop-i l = Unrolling l.rows l.next l.coded l.i
