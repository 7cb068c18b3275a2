-- `speech::decoding::nearest_inputs` meets its contract: the protected bits are searched. Assumes nothing.
use Rattle.speech.proofs.Settling.{found}
use Rattle.speech.proofs.decoding.nearest_inputs.Goals as goal

pub returns : goal.returns
returns c = found c.args.frame.now c.take_protected.ensures c.told-inputs c.terminated.ensures
