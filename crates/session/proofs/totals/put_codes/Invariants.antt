-- `session::totals::put_codes` meets its contract: the lines of the codes passed are written. Assumes nothing.
use Rattle.session.proofs.Closing.{Listing}
use Rattle.session.proofs.totals.put_codes.Given as goal

abbrev pub invariant-loop-dvcc : goal.invariant-loop-dvcc
invariant-loop-dvcc g l = Listing l.counts l.initial.page l.page l.dvcc
