-- `soft::reliability::all_finite` meets its contract: the values passed were tested. Assumes nothing.
use Rattle.std.proofs.Common.{arith, refl, ◌∙◌}
use Rattle.std.specs.Float.{nan}
use Rattle.bits.proofs.Passing.{testing_more, testing_done}
use Rattle.soft.proofs.Tests.{finite_tests, finite_same}
use Rattle.soft.proofs.reliability.all_finite.Goals as goal

pub loop-x-preserved : goal.loop-x-preserved
loop-x-preserved c = testing_more finite_tests c.loop-x.invariant nan (omega arith) (c.is_finite-finite.ensures.value ∙ finite_same _) refl

pub returns : goal.returns
returns c = testing_done finite_tests c.loop-x.invariant (omega arith)
