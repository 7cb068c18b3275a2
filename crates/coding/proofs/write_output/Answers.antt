-- `coding::write_output` meets its contract: the bits passed stand at their places. Assumes nothing.
use Rattle.std.proofs.Common.{arith}
use Rattle.std.proofs.lemmas.List.Edits.{paste_more}
use Rattle.coding.proofs.write_output.Goals as goal

pub loop-i-preserved : goal.loop-i-preserved
loop-i-preserved g c = rw c.loop-i.invariant (paste_more c.args.coded.now c.args.at c.args.output.now c.loop-i.i 0 (omega arith) (omega arith))
