-- `coding::write_output` meets its contract: the bits passed stand at their places. Assumes nothing.
use Rattle.std.proofs.Common.{◌≡◌}
use Rattle.std.proofs.Math.Seq.{paste}
use Rattle.coding.proofs.write_output.Given as goal

abbrev pub invariant-loop-i : goal.invariant-loop-i
invariant-loop-i g l = l.coded ≡ paste l.initial.coded l.at l.output l.i
