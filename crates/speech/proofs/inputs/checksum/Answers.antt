-- `speech::inputs::checksum` meets its contract: the significant bits are gathered. Assumes nothing.
use mathlib.Core.Path.{refl, ap, ◌∙◌}
use Rattle.bits.specs.Bits.{bits}
use Rattle.bits.proofs.PlacesMoved.{asks_gather, bits-taken}
use Rattle.checksums.specs.Checksums.{checksum7_of}
use Rattle.speech.specs.Inputs.{significant_places}
use Rattle.speech.proofs.InputBits.{significant_apart}
use Rattle.speech.proofs.inputs.checksum.Goals as goal

pub gather-requires : goal.gather-requires
gather-requires c = asks_gather _ significant_places 89 _ _ refl significant_apart c.told-inputs refl

pub returns : goal.returns
returns c =
    c.from.ensures ∙ c.checksum7_of_bits.ensures ∙ ap (λ l. checksum7_of (bits l)) c.gather.ensures
    ∙ ap checksum7_of (bits-taken significant_places c.args.inputs.now)
