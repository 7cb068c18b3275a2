-- `session::totals::put_codes` meets its contract: the lines of the codes passed are written. Assumes nothing.
use mathlib.Core.Path.{refl}
use native.Mathlib.Omega.{arith}
use Rattle.session.proofs.Closing.{listing_none, listing_more, listing_done}
use Rattle.session.proofs.totals.put_codes.Goals as goal

pub loop-dvcc-init : goal.loop-dvcc-init
loop-dvcc-init g c = listing_none

pub loop-dvcc-preserved : goal.loop-dvcc-preserved
loop-dvcc-preserved g c = listing_more c.loop-dvcc.invariant refl c.put_line.ensures.text c.put_line.ensures.upper_bound

pub returns : goal.returns
returns g c = let listed = c.loop-dvcc.invariant in record { text = listing_done listed (omega arith); upper_bound = omega (arith, listed.room) }
