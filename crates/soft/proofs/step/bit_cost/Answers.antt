-- `soft::step::bit_cost` meets its contract. Assumes nothing.
use lib.Ieee.{of_bits}
use Rattle.soft.specs.Reliability.{negative}
use Rattle.std.proofs.Common.{◌∙◌}
use Rattle.soft.proofs.Tests.{magnitude_same}
use Rattle.soft.proofs.Costs.{cost_size, cost_none}
use Rattle.soft.proofs.step.bit_cost.Goals as goal

pub returns-then-bit-reliability : goal.returns-then-bit-reliability
unfolding negative of_bits
returns-then-bit-reliability c = cost_size c.args.bit c.args.reliability _ c.if-bit-reliability.true (c.abs.ensures.value ∙ magnitude_same _)

pub returns-else-bit-reliability : goal.returns-else-bit-reliability
unfolding negative of_bits
returns-else-bit-reliability c = cost_none c.args.bit c.args.reliability c.if-bit-reliability.false
