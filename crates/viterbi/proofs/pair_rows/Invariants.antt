-- `viterbi::pair_rows` meets its contract: the rows passed are those of their pairs. Assumes nothing.
use Prim.Native.Nat.{◌/◌, ◌%◌}
use mathlib.Core.List.{[]}
use Rattle.bits.specs.Bits.{bit}
use Rattle.bits.proofs.Filled.{Filling}
use Rattle.viterbi.specs.Rows.{DistancesTo}
use Rattle.viterbi.proofs.pair_rows.Given as goal

abbrev pub invariant-loop-pair : goal.invariant-loop-pair
invariant-loop-pair l = Filling (λ i row. DistancesTo (bit (i / 2)) (bit (i % 2)) row 64) [] 4 l.rows l.pair
