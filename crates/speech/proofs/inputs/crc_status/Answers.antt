-- `speech::inputs::crc_status` meets its contract: the checksum decides the status. Assumes nothing.
use mathlib.Core.Path.{sym, subst}
use native.Mathlib.Omega.{arith}
use Rattle.bits.specs.Places.{Below}
use Rattle.speech.specs.Inputs.{parity_places}
use Rattle.speech.proofs.InputBits.{parity_apart}
use Rattle.speech.proofs.Statuses.{failed, valid}
use Rattle.speech.proofs.inputs.crc_status.Goals as goal

pub pack_at-requires : goal.pack_at-requires
pack_at-requires c = (omega arith, (omega arith, subst (Below parity_places) (sym c.told-inputs) parity_apart.low))

pub returns-then-pack_at-checksum : goal.returns-then-pack_at-checksum
returns-then-pack_at-checksum c = sym (valid c.args.inputs.now c.pack_at.ensures c.checksum.ensures c.if-pack_at-checksum.true)

pub returns-else-pack_at-checksum : goal.returns-else-pack_at-checksum
returns-else-pack_at-checksum c = sym (failed c.args.inputs.now c.pack_at.ensures c.checksum.ensures c.if-pack_at-checksum.false)
