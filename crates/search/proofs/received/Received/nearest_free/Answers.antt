-- `search::Received::nearest_free` meets its contract: the survivor into a lowest end is a nearest word. Assumes nothing.
use Rattle.search.specs.Forward.{branch_by}
use Rattle.search.proofs.Deciding.{zeros_start, decides}
use Rattle.search.proofs.received.Received.nearest_free.Goals as goal

pub forward-metrics-requires : goal.forward-metrics-requires
forward-metrics-requires c = (c.args.self.short, zeros_start)

pub returns : goal.returns
returns c =
    let received = c.args.self in
    let back = c.traceback-tie in
    decides (branch_by received.rows.now received.symbols.now) _ c.requires.0 _ _ _ c.forward-metrics.ensures _ c.lowest_end-end.ensures _ _ back.result c.requires.1 back.ensures
