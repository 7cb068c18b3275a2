-- Parts of a word as bytes: numbers in it. Assumes nothing.
use mathlib.Core.Path.{◌≡◌, ap, ◌∙◌}
use mathlib.Core.List.{List}
use Prim.Native.Nat.{ℕ, ◌+◌, ◌-◌}
use lib.ListN.{take, drop}
use Rattle.bits.specs.Bits.{bits}
use Rattle.bits.specs.Numbers.{packed}
use Rattle.bits.proofs.Packed.{part_bits}
use Rattle.words.specs.Words.{message_in}

pub message_is : (l : List ℕ) (h : ℕ) {x : ℕ} → x ≡ packed (bits (take (h + 48 - h) (drop h l))) → x ≡ message_in h (bits l)
message_is l h e = e ∙ ap packed (part_bits 48 h l)
