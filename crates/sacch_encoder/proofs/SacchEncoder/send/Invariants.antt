-- `sacch_encoder::SacchEncoder::send` meets its contract: one six after the other, then the fields of all. Assumes nothing.
use Prim.Native.Nat.{ℕ, ◌*◌}
use lib.ListN.{take, drop}
use Rattle.bits.specs.Bits.{bits}
use Rattle.bits.specs.Numbers.{packed}
use Rattle.sacch_encoder.proofs.Slots.{Slots}
use Rattle.sacch_encoder.proofs.SacchEncoder.send.Given as goal

abbrev pub invariant-loop-i : goal.invariant-loop-i
invariant-loop-i l = Slots l.initial.self (λ (k : ℕ). packed (take 6 (drop (6 * k) (bits l.word)))) l.self l.run l.i
