-- `encode`: the protected bits and class two are the frame. Assumes nothing.
use mathlib.Core.Path.{◌≡◌, sym, ap, ap₂, ◌∙◌}
use mathlib.Core.Bool.{Bool, true, false}
use mathlib.Core.List.{List, ◌++◌}
use Prim.Native.Nat.{ℕ, ◌+◌, ◌*◌, ◌≤◌}
use lib.ListN.{length, take, drop, length-map}
use lib.Seq.{take_at}
use borrow.Rule.Slice.PartMut.{put_mid}
use Rattle.bits.specs.Bits.{bits, bytes, byte, all_binary}
use Rattle.bits.proofs.Binary.{bits-bytes, binary_bytes, bytes-append}
use Rattle.coding.specs.Codes.{coded, acelp}
use Rattle.coding.specs.Registers.{memory_low}
use Rattle.coding.proofs.Coded.{coded-length}
use Rattle.puncturing.specs.Punctured.{sent_of}
use Rattle.puncturing.proofs.Kept.{sent_length}
use Rattle.acelp_cc1.specs.Frames.{ordered, parity_of, inputs_with, inputs_of, ordered_frame, frame_of}
use Rattle.acelp_cc1.proofs.Ordering.{ordered-bytes, bytes_drop}
use Rattle.acelp_cc1.proofs.Inputs.{bytes-inputs, inputs_length}
use Rattle.acelp_cc1.proofs.Parts.{to_end}

-- 208 bits of 108 inputs
pub protected_length : (m u : List Bool) → length u ≡ 108 → length (sent_of (coded acelp m u)) ≡ 208
protected_length m u e = sent_length _ (coded-length acelp m u ∙ ap (λ (n : ℕ). n * 2) e)

module _ (speech : List ℕ) (binary : all_binary speech ≡ true) {sorted : List ℕ} (e : sorted ≡ ordered 0 speech) where
  abbrev order : List Bool
  order = ordered false (bits speech)

  sorted_bytes : sorted ≡ bytes order
  sorted_bytes = e ∙ ordered-bytes speech binary

  sorted_bits : bits sorted ≡ order
  sorted_bits = ap bits sorted_bytes ∙ bits-bytes order

  module _ {inputs : List ℕ} (f : inputs ≡ inputs_with 0 sorted (bytes (parity_of (bits sorted)))) where
    inputs_bytes : inputs ≡ bytes (inputs_of order)
    inputs_bytes = f ∙ ap₂ (λ (l : List ℕ) (u : List Bool). inputs_with 0 l (bytes (parity_of u))) sorted_bytes sorted_bits ∙ sym (bytes-inputs order)

    pub inputs_binary : all_binary inputs ≡ true
    inputs_binary = ap all_binary inputs_bytes ∙ binary_bytes (inputs_of order)

    inputs_bits : bits inputs ≡ inputs_of order
    inputs_bits = ap bits inputs_bytes ∙ bits-bytes (inputs_of order)

    pub framed : (frame : List ℕ) (n : ℕ) {frame₁ two : List ℕ} → length frame₁ ≤ 208 + n → frame₁ ≡ bytes (sent_of (coded acelp (memory_low 0) (bits inputs))) ++ drop 208 frame
        → two ≡ drop 96 sorted → put_mid 208 n frame₁ two ≡ bytes (frame_of (bits speech))
    unfolding frame_of ordered_frame
    framed frame n {frame₁} {two} size e₁ e₂ =
        let protected : List Bool = sent_of (coded acelp (memory_low 0) (inputs_of order)) in
        let long : length (bytes protected) ≡ 208 = length-map protected byte ∙ protected_length (memory_low 0) (inputs_of order) (inputs_length order) in
        let sent : frame₁ ≡ bytes protected ++ drop 208 frame =
        e₁ ∙ ap (λ (u : List Bool). bytes (sent_of (coded acelp (memory_low 0) u)) ++ drop 208 frame) inputs_bits in
        to_end 208 n frame₁ two size
        ∙ ap₂ (λ (a b : List ℕ). a ++ b) (ap (take 208) sent ∙ take_at (bytes protected) (drop 208 frame) 208 long) (e₂ ∙ ap (drop 96) sorted_bytes ∙ bytes_drop 96 order)
        ∙ sym (bytes-append protected (drop 96 order))
