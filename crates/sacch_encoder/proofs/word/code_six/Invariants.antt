-- `sacch_encoder::word::code_six` meets its contract: each turn is one step more of the coder's run. Assumes nothing.
use Rattle.sacch_encoder.proofs.Coding.{Coding}
use Rattle.sacch_encoder.proofs.word.code_six.Given as goal

abbrev pub invariant-loop-bit : goal.invariant-loop-bit
invariant-loop-bit l = Coding l.memory l.six l.row l.at l.bit-index
