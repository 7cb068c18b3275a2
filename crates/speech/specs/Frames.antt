-- The channel bits of a frame (IS-54-B 2.1.3.3.3 and 2.1.3.3.4) as it is sent.
use Rattle.std.specs.Prelude.{Bool, false, List}
use Rattle.coding.specs.Codes.{coded, dcch}
use Rattle.coding.specs.Registers.{memory_high}
use Rattle.speech.specs.Inputs.{inputs_of}
use Rattle.speech.specs.Classes.{placed}

-- the inputs coded from state 0
unfoldable pub frame_of : List Bool → List Bool → List Bool
frame_of class_one class_two = placed false (coded dcch (memory_high 0) (inputs_of class_one)) class_two
