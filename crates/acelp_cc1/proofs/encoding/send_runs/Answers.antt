-- `acelp_cc1::encoding::send_runs` meets its contract: the runs passed are written. Assumes nothing.
use mathlib.Core.Path.{◌≡◌, subst}
use native.Mathlib.Omega.{arith}
use Rattle.acelp_cc1.proofs.Sending.{Sent, sent_more, sent_done}
use Rattle.acelp_cc1.proofs.encoding.send_runs.Goals as goal

pub loop-run-preserved : goal.loop-run-preserved
loop-run-preserved c = sent_more _ _ c.told-first c.told-second c.loop-run.invariant (omega arith) (omega arith) (omega arith) c.send_pairs.ensures

pub returns : goal.returns
returns c = sent_done c.args.first.now c.args.second.now (let e : c.loop-run.run ≡ 4 = omega arith in subst (Sent c.args.first.now c.args.second.now c.args.frame.now c.loop-run.frame) e c.loop-run.invariant)
