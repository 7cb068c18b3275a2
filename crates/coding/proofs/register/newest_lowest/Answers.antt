-- `coding::register::newest_lowest` meets its contract: a step of the register is a step of the code. Assumes nothing.
use Rattle.coding.proofs.Steps.{low_step}
use Rattle.coding.proofs.register.newest_lowest.Goals as goal

pub returns : goal.returns
returns g c = let e = c.step_to.ensures.0 in rw e (low_step c.args.generators c.args.input c.requires c.step_to.ensures.1)
