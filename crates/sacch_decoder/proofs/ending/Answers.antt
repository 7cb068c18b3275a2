-- `sacch_decoder::ending` meets its contract: the last five bits, packed. Assumes nothing.
use mathlib.Core.Path.{refl}
use native.Mathlib.Omega.{arith}
use Rattle.sacch_decoder.proofs.NewestFive.{five_packed, five_below}
use Rattle.sacch_decoder.proofs.ending.Goals as goal

pub overflow_cast-result : goal.overflow_cast-result
overflow_cast-result c = omega (arith, five_below _ c.pack.ensures refl)

pub returns : goal.returns
returns c = five_packed _ c.told-word c.pack.ensures
