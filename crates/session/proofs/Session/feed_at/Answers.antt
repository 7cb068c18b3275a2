-- `session::Session::feed_at` meets its contract: the bytes passed are fed. Assumes nothing.
use native.Mathlib.Omega.{arith}
use Rattle.session.proofs.Placed.{feeding_at_more, feeding_at_none, feeding_at_room, feeding_at_said}
use Rattle.session.proofs.Stepped.{feeding_done}
use Rattle.session.proofs.Session.feed_at.Goals as goal

pub loop-end-init : goal.loop-end-init
loop-end-init c = feeding_at_none _ _ _

pub end_line_at-at-requires : goal.end_line_at-at-requires
end_line_at-at-requires c =
    let line = c.in-Some.ensures in
    let room = feeding_at_room c.loop-end.invariant in
    omega (arith, room.0, room.1, line.end.low, line.within, c.requires)

pub loop-end-preserved : goal.loop-end-preserved
loop-end-preserved c =
    let line = c.in-Some.ensures in
    let done = c.end_line_at-at.ensures in
    feeding_at_more c.loop-end.invariant line.end line.within c.keep.ensures done.session done.text done.upper_bound

pub returns : goal.returns
returns c =
    let rest = c.in_default.ensures.end in
    let fed = c.loop-end.invariant in
    let room = feeding_at_room fed in
    record {
      session = feeding_done fed.fed rest c.keep-2.ensures;
      text = feeding_at_said fed rest;
      room = omega (arith, room.0, room.2);
      at_in_bounds = omega (arith, room.0, room.1, room.2, c.requires);
    }
