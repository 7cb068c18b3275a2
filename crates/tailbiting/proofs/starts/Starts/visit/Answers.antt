-- `tailbiting::starts::Starts::visit` meets its contract: one more start is tried or passed over. Assumes nothing.
use Rattle.std.proofs.Common.{refl, rules}
use Rattle.tailbiting.proofs.Tries.{passed, tried_run}
use Rattle.tailbiting.proofs.starts.Starts.visit.Goals as goal

pub returns-then-best-self : goal.returns-then-best-self
returns-then-best-self c =
    let starts = c.args.self.now in
    passed _ starts.first c.args.turn _ starts.low c.requires.turn refl starts.bounds _ _ starts.bounded (search rules) c.requires.found

pub returns : goal.returns
returns c =
    let starts = c.args.self.now in
    tried_run _ starts.first c.args.turn _ starts.low c.requires.turn refl c.args.inputs.now _ c.args.best _ _ _ _ starts.steps c.requires.found c.nearest_between-run.ensures
    c.better.ensures.0 c.better.ensures.1
