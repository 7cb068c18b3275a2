-- `search::Received::nearest_between` meets its contract: the survivor into `to` is the first of the nearest words. Assumes nothing.
use Rattle.std.proofs.Common.{arith}
use Rattle.search.proofs.Finding.{start_le, found}
use Rattle.search.proofs.received.Received.nearest_between.Goals as goal

pub forward-metrics-requires : goal.forward-metrics-requires
forward-metrics-requires c = (c.args.self.short, start_le c.args.from (omega arith))

pub returns : goal.returns
returns c =
    let received = c.args.self in
    found received.rows.now received.symbols.now received.small c.args.from c.args.to c.requires.0 c.requires.1 c.requires.2 received.short
    _ _ _ _ _ _ c.forward-metrics.ensures c.requires.3 c.traceback-tie.ensures
