-- The end is within the room, and the length comes nearer to it.
use Rattle.std.proofs.Common.{◌-◌, ◌≤◌}
use Rattle.calls.proofs.bytes.Bytes.go_round.Given as goal

abbrev pub invariant-loop-self : goal.invariant-loop-self
invariant-loop-self l = l.end ≤ 800

abbrev pub decreases-loop-self : goal.decreases-loop-self
decreases-loop-self l = l.end - l.self.length
