-- `coding::Code::convolutional_encode` meets its contract: each turn is one step more of the run. Assumes nothing.
use Rattle.coding.proofs.Encoding.{Encoding}
use Rattle.coding.proofs.Code.convolutional_encode.Given as goal

abbrev pub invariant-loop-i : goal.invariant-loop-i
invariant-loop-i g l = Encoding g.met.Self.Code.laws l.state l.input l.initial.coded l.coded l.at l.i
