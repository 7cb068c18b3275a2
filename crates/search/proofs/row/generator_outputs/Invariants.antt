-- `search::row::generator_outputs` meets its contract: the places passed hold the output bits. Assumes nothing.
use mathlib.Core.Path.{◌≡◌}
use Rattle.bits.proofs.Filled.{Filling}
use Rattle.bits.specs.Bits.{byte}
use Rattle.search.specs.Row.{output_at}
use Rattle.search.proofs.row.generator_outputs.Given as goal

abbrev pub invariant-loop-place : goal.invariant-loop-place
invariant-loop-place l = Filling (λ i x. x ≡ byte (output_at l.taps i)) 0 64 l.output l.place
