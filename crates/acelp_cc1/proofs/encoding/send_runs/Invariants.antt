-- `acelp_cc1::encoding::send_runs` meets its contract: the runs passed are written. Assumes nothing.
use Rattle.acelp_cc1.proofs.Sending.{Sent}
use Rattle.acelp_cc1.proofs.encoding.send_runs.Given as goal

abbrev pub invariant-loop-run : goal.invariant-loop-run
invariant-loop-run l = Sent l.first l.second l.initial.frame l.frame l.run
