-- `sacch_encoder::word::fields_of` meets its contract: the places filled so far hold their slots' fields. Assumes nothing.
use mathlib.Core.Path.{◌≡◌}
use Prim.Native.Nat.{◌+◌}
use lib.ListN.{take, drop}
use Rattle.bits.proofs.Filled.{Filling}
use Rattle.sacch_interleaver.specs.Diagonal.{field_of}
use Rattle.sacch_encoder.proofs.word.fields_of.Given as goal

abbrev pub invariant-loop-i : goal.invariant-loop-i
invariant-loop-i l = Filling (λ k x. x ≡ field_of (take 12 (drop (k + 1) l.run)) 0) 0 11 l.field-items l.i
