-- `words::valid` meets its contract: the checksum of header and message against the bits after them. Assumes nothing.
use mathlib.Core.Bool.{Bool}
use mathlib.Core.List.{List}
use native.Mathlib.Omega.{arith}
use Rattle.bits.proofs.LentPart.{part_length}
use Rattle.checksums.specs.Checksums.{checksum_of}
use Rattle.checksums.proofs.Tested.{carries_sum}
use Rattle.words.proofs.valid.Goals as goal

pub slice_bounds-checksum_under-end : goal.slice_bounds-checksum_under-end
slice_bounds-checksum_under-end c = part_length _ c.args.word.now (omega arith)

pub returns : goal.returns
returns c =
    let entry = c.args in
    carries_sum (λ (u : List Bool). checksum_of u entry.dvcc) _ entry.word.now c.checksum_under-wanted.ensures c.carries.ensures
