-- `acelp_cc1::encoding::send_pairs` meets its contract: the pairs passed are written. Assumes nothing.
use native.Mathlib.Omega.{arith}
use Rattle.acelp_cc1.proofs.Sending.{pairing_more, pairing_done}
use Rattle.acelp_cc1.proofs.encoding.send_pairs.Goals as goal

pub loop-i-preserved : goal.loop-i-preserved
loop-i-preserved c = pairing_more c.args.first.now c.args.second.now c.requires.0 c.loop-i.invariant (omega arith)

pub returns : goal.returns
returns c = pairing_done c.args.first.now c.args.second.now c.requires.0 c.loop-i.invariant (omega arith)
