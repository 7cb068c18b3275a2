-- `tailbiting::starts::better` meets its contract, by three ways out. Assumes nothing.
use Rattle.std.proofs.Common.{refl, rules}
use Rattle.tailbiting.proofs.Joined.{run_less, best_less, both_even}
use Rattle.tailbiting.proofs.starts.better.Goals as goal

pub returns-in-Less : goal.returns-in-Less
returns-in-Less c = run_less c.args.best c.args.run c.args.word.now c.args.inputs.now _ (search rules) refl

pub returns-in-Equal : goal.returns-in-Equal
returns-in-Equal c = both_even c.args.best c.args.run c.args.word.now c.args.inputs.now (search rules) (search rules)

pub returns-in-Greater : goal.returns-in-Greater
returns-in-Greater c = best_less c.args.best c.args.run c.args.word.now c.args.inputs.now (search rules)
