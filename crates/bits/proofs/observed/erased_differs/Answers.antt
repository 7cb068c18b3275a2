-- `bits::observed::erased_differs` meets its contract. Assumes nothing.
use native.Mathlib.Omega.{arith}
use Rattle.bits.proofs.Erased.{erased_none, erased_seen}
use Rattle.bits.proofs.observed.erased_differs.Goals as goal

pub returns-then-received-eq-UNOBSERVED : goal.returns-then-received-eq-UNOBSERVED
returns-then-received-eq-UNOBSERVED c = (erased_none _ _ c.if-received-eq-UNOBSERVED.true, omega arith)

pub returns : goal.returns
returns c = (erased_seen _ _ _ c.if-received-eq-UNOBSERVED.false c.differs.ensures.0, c.differs.ensures.1)
