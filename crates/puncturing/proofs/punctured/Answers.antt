-- `puncturing::punctured` meets its contract: the engine searches the words of the code. Assumes nothing.
use Rattle.puncturing.proofs.Branches.{found}
use Rattle.puncturing.proofs.punctured.Goals as goal

pub returns : goal.returns
returns c =
    let symbols = c.symbols-symbols.ensures in
    found c.args.coded.now _ _ c.requires.0 symbols.0 c.step_rows-rows.ensures symbols.1 _ _ c.nearest_between.ensures
