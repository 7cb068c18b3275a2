-- `session::Session::feed` meets its contract: the bytes passed are fed. Assumes nothing.
use native.Mathlib.Omega.{arith}
use Rattle.session.proofs.Stepped.{feeding_none, feeding_more, feeding_done, feeding_said}
use Rattle.session.proofs.Session.feed.Goals as goal

pub loop-end-init : goal.loop-end-init
loop-end-init g c = rw c.clear.ensures (feeding_none _ _)

pub loop-end-preserved : goal.loop-end-preserved
loop-end-preserved g c =
    let line = c.in-Some.ensures in
    let done = c.end_line.ensures in
    feeding_more c.loop-end.invariant line.end line.within c.keep.ensures done.session done.text done.upper_bound

pub returns : goal.returns
returns g c =
    let rest = c.in_default.ensures.end in
    let fed = c.loop-end.invariant in
    record { session = feeding_done fed rest c.keep-2.ensures; text = feeding_said fed rest; room = omega (arith, fed.low, fed.room) }
