-- `soft::step::stored` meets its contract. Assumes nothing.
use Rattle.std.specs.Float.Ieee.{of_bits}
use Rattle.soft.specs.Step.{stored_of}
use Rattle.soft.proofs.step.stored.Goals as goal

pub returns-then-metric : goal.returns-then-metric
unfolding stored_of of_bits
returns-then-metric c = rw c.if-metric.true

pub returns-else-metric : goal.returns-else-metric
unfolding stored_of of_bits
returns-else-metric c = rw c.if-metric.false
