-- `search::butterfly::advance` meets its contract: the butterflies passed fill two states each. Assumes nothing.
use Rattle.std.proofs.Common.{arith, ◌∙◌}
use Rattle.search.proofs.Selecting.{lesser_min}
use Rattle.search.proofs.Butterflies.{filled_more, filled_all}
use Rattle.search.proofs.butterfly.advance.Goals as goal

pub loop-n-preserved : goal.loop-n-preserved
loop-n-preserved c =
    filled_more _ _ _ _ _ _ _ _ _ (omega arith) c.loop-n.invariant (c.min.ensures ∙ lesser_min _ _) (c.min-in-loop-n.ensures ∙ lesser_min _ _)
    c.predecessor_byte.ensures c.predecessor_byte-in-loop-n.ensures

pub returns : goal.returns
returns c = filled_all _ _ _ _ _ c.loop-n.invariant (omega arith)
