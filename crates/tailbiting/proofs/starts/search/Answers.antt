-- `tailbiting::starts::search` meets its contract: after each turn the best of the starts tried is kept. Assumes nothing.
use Rattle.std.proofs.Common.{arith}
use Rattle.tailbiting.proofs.Tries.{first_found, all_tried}
use Rattle.tailbiting.proofs.starts.search.Goals as goal

pub loop-turn-init : goal.loop-turn-init
loop-turn-init c = (omega arith, first_found _ _ _ _ _ c.new-starts.result.low c.requires c.nearest_between-best.ensures)

pub returns : goal.returns
returns c = all_tried _ _ _ _ _ (omega arith) c.loop-turn.invariant.1
