-- `sacch_interleaver::field_of` meets its contract: each place passed gave the bit of its weight. Assumes nothing.
use Prim.Native.Nat.{ℕ, ◌+◌, ◌%◌}
use Rattle.sacch_interleaver.proofs.Weighing.{Weighing}
use Rattle.sacch_interleaver.proofs.field_of.Given as goal

abbrev pub invariant-loop-i : goal.invariant-loop-i
invariant-loop-i l = Weighing (λ (t : ℕ). (l.next + t) % 12) l.rows l.field l.i
