-- `checksums::carries` meets its contract: the number in the word against the one given. Assumes nothing.
use mathlib.Core.Path.{ap, ◌∙◌}
use lib.Dec.{eqb}
use Rattle.checksums.proofs.Tested.{carries_is}
use Rattle.checksums.proofs.carries.Goals as goal

pub returns : goal.returns
returns c =
    let start = c.args in
    ap (eqb c.pack.result) c.from.ensures ∙ carries_is start.word.now start.n _ c.pack.ensures
