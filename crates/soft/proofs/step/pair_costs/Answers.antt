-- `soft::step::pair_costs` meets its contract. Assumes nothing.
use Rattle.soft.proofs.Costs.{pair_costs}
use Rattle.soft.proofs.step.pair_costs.Goals as goal

pub returns : goal.returns
returns c = pair_costs _ _ c.bit_cost-a.ensures c.bit_cost-b.ensures c.bit_cost-c.ensures c.bit_cost-d.ensures
