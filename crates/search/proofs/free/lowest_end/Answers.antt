-- `search::free::lowest_end` meets its contract: the lowest of the ends passed. Assumes nothing.
use Rattle.std.proofs.Common.{◌+◌, sym, subst, arith}
use Rattle.search.proofs.Ends.{lowest_more}
use Rattle.search.specs.Ends.{LowestEnd}
use Rattle.search.specs.declared.free.End.{End}
use Rattle.search.proofs.free.lowest_end.Goals as goal

pub loop-state-preserved : goal.loop-state-preserved
loop-state-preserved c = (
  omega arith,
  subst (λ (d : End). LowestEnd c.args.metrics (c.loop-state.state + 1) d) (sym c.lower-lowest.ensures)
      (lowest_more c.args.metrics c.loop-state.state c.loop-state.lowest c.loop-state.invariant.1),
)
