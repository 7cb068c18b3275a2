-- `tailbiting::starts::lowest` meets its contract: the state is one of the 32. Assumes nothing.
use Prim.Native.Nat.{◌<◌, ◌≤◌}
use Rattle.tailbiting.proofs.starts.lowest.Given as goal

abbrev pub invariant-loop-state : goal.invariant-loop-state
invariant-loop-state l = (l.at < 32) × (l.state ≤ 32)
