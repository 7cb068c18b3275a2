-- `acelp_cc1::encoding::send_pairs` meets its contract: the pairs passed are written. Assumes nothing.
use Rattle.acelp_cc1.proofs.Sending.{Pairing}
use Rattle.acelp_cc1.proofs.encoding.send_pairs.Given as goal

abbrev pub invariant-loop-i : goal.invariant-loop-i
invariant-loop-i l = Pairing l.first l.second l.pairs l.i
