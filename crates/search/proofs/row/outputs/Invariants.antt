-- `search::row::outputs` meets its contract: the generators passed have their outputs. Assumes nothing.
use Rattle.std.proofs.Common.{[], get_or, length}
use Rattle.bits.proofs.Filled.{Filling}
use Rattle.search.specs.Row.{OutputsTo}
use Rattle.search.proofs.row.outputs.Given as goal

abbrev pub invariant-loop-i : goal.invariant-loop-i
invariant-loop-i g l = Filling (λ i output. OutputsTo (get_or l.fn.generators i 0) output 64) [] (length l.fn.generators) l.outputs l.i
