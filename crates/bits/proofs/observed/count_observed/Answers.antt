-- `bits::observed::count_observed` meets its contract: so many of the bytes passed are observed. Assumes nothing.
use mathlib.Core.Path.{◌∙◌}
use native.Mathlib.Omega.{arith}
use lib.ListN.{get_or}
use Rattle.bits.proofs.Erased.{observing_none, observing_more, observing_done, observed_of, observed_one_le}
use Rattle.bits.proofs.observed.count_observed.Goals as goal

pub loop-x-init : goal.loop-x-init
loop-x-init c = observing_none _

pub overflow_add-n : goal.overflow_add-n
overflow_add-n c =
    let e = c.from-n.ensures ∙ observed_of (get_or c.args.s.now c.loop-x.x-index 0) in
    omega (arith, c.loop-x.invariant.few, c.loop-x.invariant.low, e, observed_one_le (get_or c.args.s.now c.loop-x.x-index 0))

pub loop-x-preserved : goal.loop-x-preserved
loop-x-preserved c =
    let e = c.from-n.ensures ∙ observed_of (get_or c.args.s.now c.loop-x.x-index 0) in
    observing_more c.loop-x.invariant _ (omega arith) (omega (arith, e, observed_one_le (get_or c.args.s.now c.loop-x.x-index 0))) e

pub returns : goal.returns
returns c = observing_done c.loop-x.invariant (omega arith)
