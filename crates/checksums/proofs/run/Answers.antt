-- `checksums::run` meets its contract: the bits left, into the register, end where all of them end. Assumes nothing.
use native.Mathlib.Omega.{arith}
use Rattle.checksums.proofs.Shifting.{running_none, running_more, running_done}
use Rattle.checksums.proofs.run.Goals as goal

pub loop-b-init : goal.loop-b-init
loop-b-init g c = running_none g.row.N c.args.polynomial c.args.register c.args.s.now c.requires.2

pub shifted_in-x-requires : goal.shifted_in-x-requires
shifted_in-x-requires g c =
    let pre = c.requires in
    (pre.0, pre.1, c.loop-b.invariant.fits, pre.3)

pub loop-b-preserved : goal.loop-b-preserved
loop-b-preserved g c = running_more c.loop-b.invariant _ (omega arith) c.shifted_in-x.ensures

pub returns : goal.returns
returns g c = running_done c.loop-b.invariant (omega arith)
