-- `coding::Code::convolutional_encode` meets its contract: each turn is one step more of the run. Assumes nothing.
use Rattle.std.proofs.Common.{arith}
use Rattle.coding.proofs.Encoding.{encoding_none, encoding_more}
use Rattle.coding.proofs.Code.convolutional_encode.Goals as goal

pub loop-i-init : goal.loop-i-init
loop-i-init g c = encoding_none g.met.Self.Code.laws _ _ _ c.requires.0

pub loop-i-preserved : goal.loop-i-preserved
loop-i-preserved g c =
    encoding_more g.met.Self.Code.laws c.loop-i.invariant c.requires.1 (omega arith) c.transition-step.ensures c.write_output.auto.coded c.write_output.ensures
