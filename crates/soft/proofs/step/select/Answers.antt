-- `soft::step::select` meets its contract: the butterflies passed fill two states each. Assumes nothing.
use Rattle.std.proofs.Common.{arith}
use Rattle.soft.proofs.Butterflies.{filled_more, filled_all}
use Rattle.soft.proofs.step.select.Goals as goal

pub loop-n-preserved : goal.loop-n-preserved
loop-n-preserved c =
    filled_more _ _ _ _ _ _ _ _ _ _ (omega arith) c.loop-n.invariant c.lesser.ensures c.lesser-in-loop-n.ensures c.predecessor.ensures
    c.predecessor-in-loop-n.ensures

pub returns : goal.returns
returns c = filled_all _ _ _ _ _ _ c.loop-n.invariant (omega arith)
