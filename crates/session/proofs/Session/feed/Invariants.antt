-- `session::Session::feed` meets its contract: the bytes passed are fed. Assumes nothing.
use Prim.Native.Nat.{◌-◌}
use lib.ListN.{length}
use Rattle.session.proofs.Stepped.{Feeding}
use Rattle.session.proofs.Session.feed.Given as goal

abbrev pub invariant-loop-end : goal.invariant-loop-end
invariant-loop-end g l = Feeding l.initial.self l.piece l.from l.self l.page

abbrev pub decreases-loop-end : goal.decreases-loop-end
decreases-loop-end g l = length l.piece - l.from
