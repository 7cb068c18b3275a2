-- Each word that was read left the rooms untouched.
use Rattle.std.proofs.Common.{All}
use Rattle.calls.specs.Rooms.{IsUntouched}
use Rattle.calls.proofs.arguments.Arguments.read.Given as goal

abbrev pub invariant-loop-word : goal.invariant-loop-word
invariant-loop-word l = All IsUntouched l.arguments.rooms
