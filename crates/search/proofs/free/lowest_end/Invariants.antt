-- `search::free::lowest_end` meets its contract: the lowest of the ends passed. Assumes nothing.
use Prim.Native.Nat.{◌≤◌}
use Rattle.search.specs.Ends.{LowestEnd}
use Rattle.search.proofs.free.lowest_end.Given as goal

abbrev pub invariant-loop-state : goal.invariant-loop-state
invariant-loop-state l = (l.state ≤ 32) × LowestEnd l.metrics l.state l.lowest
