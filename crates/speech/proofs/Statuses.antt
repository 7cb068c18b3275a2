-- The status of a frame: whether the checksum in its inputs is theirs. Assumes nothing.
use mathlib.Core.Path.{◌≡◌, sym, ap, ap₂, subst, ◌∙◌}
use mathlib.Core.Bool.{Bool, false, cond}
use mathlib.Core.List.{List}
use Prim.Native.Nat.{ℕ, ◌^◌, ◌<◌}
use lib.Dec.{eqb}
use borrow.Author.Tests.{eq-eqb, ne_eqb}
use Rattle.bits.specs.Bits.{bits}
use Rattle.bits.specs.Numbers.{packed}
use Rattle.bits.specs.Places.{taken}
use Rattle.bits.proofs.Packed.{packed_below, packed-unpacked_below}
use Rattle.checksums.specs.Checksums.{check_bits, checksum7_of, speech}
use Rattle.checksums.proofs.Answers.{checksum7_below}
use Rattle.speech.specs.Inputs.{parity_places, significant_places, parity_of}
use Rattle.speech.specs.Calls.{status_of}
use Rattle.speech.specs.declared.CrcStatus.TheVariants.{Valid, Failed}

-- a checksum has seven bits
own_parity : (u : List Bool) → packed (parity_of u) ≡ checksum7_of (taken false significant_places u)
unfolding parity_of
own_parity u = packed-unpacked_below 7 (checksum7_of (taken false significant_places u)) (checksum7_below (taken false significant_places u))

pub status_by : (u : List Bool) (t : Bool) → eqb (packed (taken false parity_places u)) (packed (parity_of u)) ≡ t → status_of u ≡ cond t Valid Failed
unfolding status_of
status_by u t e = ap (λ (b : Bool). cond b Valid Failed) e

module _ (inputs : List ℕ) {received remainder : ℕ} (er : received ≡ packed (taken false parity_places (bits inputs)))
    (ec : remainder ≡ checksum7_of (taken false significant_places (bits inputs))) where
  tested : (t : Bool) → eqb received remainder ≡ t → status_of (bits inputs) ≡ cond t Valid Failed
  tested t e =
      status_by (bits inputs) t
      (ap₂ eqb (sym er) (own_parity (bits inputs) ∙ sym ec) ∙ e)

  pub failed : (received ≡ remainder → ⊥) → status_of (bits inputs) ≡ Failed
  failed n = tested _ (ne_eqb received remainder n)

  pub valid : received ≡ remainder → status_of (bits inputs) ≡ Valid
  valid e = tested _ (eq-eqb received remainder e)
