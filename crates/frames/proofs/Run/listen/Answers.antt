-- `frames::Run::listen` meets its contract: what the turns so far come to. Assumes nothing.
use native.Mathlib.Omega.{arith}
use Rattle.std.proofs.Common.{rules}
use Rattle.frames.proofs.Turning.{no_turn_left, nothing_to_read, turned_first, turned_more}
use Rattle.frames.proofs.Run.listen.Goals as goal

pub loop-turn-init : goal.loop-turn-init
loop-turn-init c = turned_first c.requires c.answer_piece-last.ensures

pub returns-then-ne : goal.returns-then-ne
returns-then-ne c = nothing_to_read c.loop-turn.invariant (search rules)

pub loop-turn-preserved : goal.loop-turn-preserved
loop-turn-preserved c = turned_more c.loop-turn.invariant (search rules) (omega arith) c.answer_piece-last-in-loop-turn.ensures

pub returns : goal.returns
returns c = no_turn_left c.loop-turn.invariant (omega arith)
