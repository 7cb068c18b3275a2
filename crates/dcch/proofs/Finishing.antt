-- The ends of a decoding: the checksum after the information is right or wrong. Assumes nothing.
use mathlib.Core.Path.{◌≡◌, refl, sym, ap, ◌∙◌}
use mathlib.Core.Bool.{Bool, true, false, false≢true}
use mathlib.Core.List.{List}
use Prim.Native.Nat.{ℕ}
use lib.ListN.{length, take}
use Rattle.std.specs.Prelude.{Ok, Err}
use Rattle.bits.specs.Bits.{bits, bytes, all_binary}
use Rattle.bits.specs.declared.Refusal.TheVariants.{Crc}
use Rattle.bits.proofs.Binary.{bits-take, binary_take, bytes_bits}
use Rattle.checksums.specs.Checksums.{carries}
use Rattle.checksums.proofs.Tested.{carries_sum}
use Rattle.dcch.specs.declared.crc.CrcMode.{CrcMode}
use Rattle.dcch.specs.Crc.{block_valid, sent_checksum}
use Rattle.dcch.specs.Blocks.{Finished}

module _ (inputs information : List ℕ) (binary : all_binary inputs ≡ true) (corrected dvcc : ℕ) (mode : CrcMode) {checksum : ℕ} {right : Bool}
    (sum : checksum ≡ sent_checksum (bits (take (length information) inputs)) dvcc mode) (tested : right ≡ carries (length information) (bits inputs) checksum) where
  told : right ≡ block_valid (length information) (bits inputs) dvcc mode
  told = carries_sum (λ (u : List Bool). sent_checksum u dvcc mode) (length information) inputs sum tested

  pub failed_end : right ≡ false → Finished (bits inputs) corrected dvcc mode information information (Err Crc)
  failed_end t = record { taken = λ s. absurd (false≢true (sym t ∙ told ∙ s)); failed = λ s. (refl, refl) }

  pub taken_end : {copied : List ℕ} → right ≡ true → copied ≡ take (length information) inputs → Finished (bits inputs) corrected dvcc mode information copied (Ok corrected)
  taken_end t copies =
      record {
        taken = λ s. (
          refl,
          copies ∙ sym (bytes_bits (take (length information) inputs) (binary_take (length information) inputs binary)) ∙ ap bytes (bits-take (length information) inputs),
        );
        failed = λ s. absurd (false≢true (sym s ∙ sym told ∙ t));
      }
