-- `soft::reliability::sign_count`: the bits passed that differ from the signs are counted. Assumes nothing.
use lib.ListN.{length}
use Rattle.soft.proofs.Signs.{Counting}
use Rattle.soft.proofs.reliability.sign_count.Given as goal

abbrev pub invariant-loop-sent : goal.invariant-loop-sent
invariant-loop-sent l = Counting l.coded l.values l.n (length l.yielded)
