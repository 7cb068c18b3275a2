-- `checksums::run` meets its contract: the bits left, into the register, end where all of them end. Assumes nothing.
use Rattle.checksums.proofs.Shifting.{Running}
use Rattle.checksums.proofs.run.Given as goal

abbrev pub invariant-loop-b : goal.invariant-loop-b
invariant-loop-b g l = Running g.row.N l.polynomial l.register l.s l.x l.b-index
