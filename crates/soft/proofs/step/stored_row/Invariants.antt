-- `soft::step::stored_row` meets its contract: the bytes of the states passed are right. Assumes nothing.
use mathlib.Core.Path.{◌≡◌}
use lib.ListN.{get_or}
use lib.Ieee.{nan}
use Rattle.bits.proofs.Filled.{Filling}
use Rattle.soft.specs.Step.{stored_of}
use Rattle.soft.proofs.step.stored_row.Given as goal

abbrev pub invariant-loop-t : goal.invariant-loop-t
invariant-loop-t l = Filling (λ i x. x ≡ stored_of (get_or l.metrics i nan) (get_or l.predecessors i 0)) 0 32 l.byte-items l.t
