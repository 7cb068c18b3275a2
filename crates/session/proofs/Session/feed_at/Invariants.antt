-- `session::Session::feed_at` meets its contract: the bytes passed are fed. Assumes nothing.
use Prim.Native.Nat.{◌-◌}
use lib.ListN.{length}
use Rattle.session.proofs.Placed.{FeedingAt}
use Rattle.session.proofs.Session.feed_at.Given as goal

abbrev pub invariant-loop-end : goal.invariant-loop-end
invariant-loop-end l = FeedingAt l.initial.self l.piece l.from l.self l.initial.out l.out l.at

abbrev pub decreases-loop-end : goal.decreases-loop-end
decreases-loop-end l = length l.piece - l.from
