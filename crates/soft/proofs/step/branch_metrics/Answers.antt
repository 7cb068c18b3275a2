-- `soft::step::branch_metrics` meets its contract: the butterflies passed have their two branch metrics. Assumes nothing.
use Rattle.std.proofs.Common.{arith, ◌∙◌}
use Rattle.bits.proofs.Filled.{filling_more}
use Rattle.soft.proofs.Costs.{cost_zero, cost_one}
use Rattle.soft.proofs.step.branch_metrics.Goals as goal

pub loop-n-preserved : goal.loop-n-preserved
loop-n-preserved c =
    let at = c.loop-n in
    let args = c.args in
    let costs = c.pair_costs-costs in
    let pair = c.from-pair.ensures ∙ c.requires at.n (omega arith) in (
      filling_more at.invariant.0 _ (omega arith) (cost_zero args.first args.second costs.result costs.ensures at.n (omega arith) _ pair),
      filling_more at.invariant.1 _ (omega arith) (cost_one args.first args.second costs.result costs.ensures at.n (omega arith) _ pair),
    )
