-- `checksums::four_in` meets its contract: four steps of the register. Assumes nothing.
use native.Mathlib.Omega.{arith}
use Rattle.checksums.proofs.Fours.{product_below, four_in}
use Rattle.checksums.proofs.four_in.Goals as goal

pub overflow_mul-result-2 : goal.overflow_mul-result-2
overflow_mul-result-2 c = record { fits = product_below c.args.register c.args.four (omega arith) c.requires }

pub returns : goal.returns
returns c = four_in c.args.register c.args.four (omega arith) c.requires
