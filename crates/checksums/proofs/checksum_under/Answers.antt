-- `checksums::checksum_under` meets its contract: the colour code and then the information are run from zero. Assumes nothing.
use mathlib.Core.Path.{ap, ◌∙◌}
use Prim.Native.Nat.{ℕ, ◌/◌, ◌%◌}
use Rattle.bits.specs.Numbers.{unpacked}
use Rattle.checksums.specs.Feedback.{register_after}
use Rattle.checksums.proofs.Answers.{value16}
use Rattle.checksums.proofs.checksum_under.Goals as goal

pub returns : goal.returns
returns c =
    let entry = c.args in
    let colour = c.from-colour.ensures in
    value16 entry.information.now entry.dvcc (c.four_in-half.ensures ∙ ap (λ (d : ℕ). register_after 16 4129 0 (unpacked 4 (d / 16))) colour)
    (c.four_in-start.ensures ∙ ap (λ (d : ℕ). register_after 16 4129 c.four_in-half.result (unpacked 4 (d % 16))) colour) c.checksum_from_bits.ensures
