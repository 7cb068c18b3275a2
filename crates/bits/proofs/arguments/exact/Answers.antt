-- `bits::arguments::exact` meets its contract. Assumes nothing.
use borrow.Author.Tests.{eq-eqb, ne_eqb}
use Rattle.bits.proofs.arguments.exact.Goals as goal

pub returns-then-wanted-given : goal.returns-then-wanted-given
returns-then-wanted-given c = rw (eq-eqb c.args.wanted c.args.given c.if-wanted-given.true)

pub returns : goal.returns
returns c = rw (ne_eqb c.args.wanted c.args.given c.if-wanted-given.false)
