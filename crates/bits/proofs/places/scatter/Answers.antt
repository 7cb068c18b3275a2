-- `bits::places::scatter` meets its contract: the bytes passed are at their places. Assumes nothing.
use native.Mathlib.Omega.{arith}
use Rattle.std.proofs.Common.{rules}
use Rattle.std.proofs.lemmas.Slice.Zip.{zip_end}
use Rattle.bits.proofs.PlacesMoved.{putting_done}
use Rattle.bits.proofs.places.scatter.Goals as goal

pub returns : goal.returns
returns c =
    let z = zip_end c.args.places.now c.args.from.now c.loop-place.yielded c.into_iter-place-iterator.result _ c.next.new.self _ (search rules) (search rules) c.loop-place.yielded_by
    c.in-None.is c.next.ensures.steps in
    putting_done _ c.args.from.now _ c.requires.1 c.loop-place.invariant (omega arith)
