-- The inputs: the class-one bits and the checksum put into zeros. Assumes nothing.
use mathlib.Core.Path.{◌≡◌, ap, ap₂, subst, sym, ◌∙◌}
use mathlib.Core.Bool.{Bool, false}
use mathlib.Core.List.{List}
use Prim.Native.Nat.{ℕ}
use lib.ListN.{length, take, replicate, length-replicate}
use Rattle.bits.specs.Bits.{bits, bytes, byte}
use Rattle.bits.specs.Numbers.{unpacked}
use Rattle.bits.specs.Places.{put, Apart}
use Rattle.bits.proofs.Binary.{bits-take}
use Rattle.bits.proofs.PlacesMoved.{put-length, put-map}
use Rattle.checksums.specs.Checksums.{checksum7_of}
use Rattle.acelp_cc1.specs.Frames.{information_places, parity_places, parity_of, inputs_with, inputs_of}
use Rattle.acelp_cc1.proofs.Placing.{parity_apart}

-- ---- the loops
module _ (sorted information : List ℕ) {inputs : List ℕ} (e : inputs ≡ put 0 information sorted (replicate 108 0)) where
  pub room_for_parity : Apart parity_places (length inputs)
  room_for_parity =
      subst (Apart parity_places) (sym (ap length e ∙ put-length 0 information sorted (replicate 108 0) ∙ length-replicate {A = ℕ} 108 0)) parity_apart

  pub filled : {inputs₂ : List ℕ} {checksum : ℕ} → information ≡ information_places → checksum ≡ checksum7_of (bits (take 48 sorted))
      → inputs₂ ≡ put 0 parity_places (bytes (unpacked 7 checksum)) inputs → inputs₂ ≡ inputs_with 0 sorted (bytes (parity_of (bits sorted)))
  unfolding inputs_with parity_of
  filled ei ec e₂ =
      e₂ ∙ ap₂ (λ (n : ℕ) (l : List ℕ). put 0 parity_places (bytes (unpacked 7 n)) l) (ec ∙ ap checksum7_of (bits-take 48 sorted))
      (e ∙ ap (λ (p : List ℕ). put 0 p sorted (replicate 108 0)) ei)

-- ---- as bits
module _ (order : List Bool) where
  pub bytes-inputs : bytes (inputs_of order) ≡ inputs_with 0 (bytes order) (bytes (parity_of order))
  unfolding inputs_of inputs_with
  bytes-inputs =
      put-map false byte parity_places (parity_of order) (put false information_places order (replicate 108 false))
      ∙ ap (put 0 parity_places (bytes (parity_of order))) (put-map false byte information_places order (replicate 108 false))

  pub inputs_length : length (inputs_of order) ≡ 108
  unfolding inputs_of inputs_with
  inputs_length =
      put-length false parity_places (parity_of order) (put false information_places order (replicate 108 false))
      ∙ put-length false information_places order (replicate 108 false) ∙ length-replicate 108 false
