-- `speech::encoding::encode_class_one` meets its contract: the inputs are coded. Assumes nothing.
use mathlib.Core.Path.{ap, ◌∙◌}
use Rattle.bits.specs.Bits.{bytes}
use Rattle.coding.specs.Codes.{coded, dcch}
use Rattle.coding.specs.Registers.{memory_high}
use Rattle.speech.proofs.encoding.encode_class_one.Goals as goal

pub returns : goal.returns
returns c = c.convolutional_encode.ensures.bits ∙ ap (λ u. bytes (coded dcch (memory_high 0) u)) c.inputs_of.ensures
