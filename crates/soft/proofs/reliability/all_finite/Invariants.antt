-- `soft::reliability::all_finite` meets its contract: the values passed were tested. Assumes nothing.
use Rattle.bits.proofs.Passing.{Testing}
use Rattle.soft.specs.Reliability.{all_finite}
use Rattle.soft.proofs.reliability.all_finite.Given as goal

abbrev pub invariant-loop-x : goal.invariant-loop-x
invariant-loop-x l = Testing all_finite l.values l.finite l.x-index
