-- The inputs of a block, written into 130 zeros: the information, then its checksum. Assumes nothing.
use mathlib.Core.Path.{◌≡◌, sym, ap, ap₂, ◌∙◌}
use mathlib.Core.Bool.{Bool, false}
use mathlib.Core.List.{List, ◌++◌, append_assoc}
use Prim.Native.Nat.{ℕ, ◌+◌, ◌-◌, ◌≤◌}
use native.Mathlib.Omega.{arith}
use Rattle.bits.specs.Bits.{byte, bits, bytes}
use Rattle.dcch.specs.Blocks.{inputs_of}
use lib.ListN.{length, take, drop, replicate, length-append, length-drop, length-map, length-replicate, replicate-append-replicate}
use lib.Seq.{length-take-le, take_at, drop_at, drop-drop}
use borrow.Rule.Slice.PartMut.{put_mid}
use Rattle.bits.specs.Numbers.{unpacked}
use Rattle.bits.proofs.Binary.{bits-append, bits-bytes}
use Rattle.bits.proofs.Packed.{unpacked-length}

-- zeros past the first ones are zeros
drop_zeros : (k n : ℕ) → drop {A = ℕ} k (replicate (k + n) 0) ≡ replicate n 0
drop_zeros k n =
    ap (λ (l : List ℕ). drop k l) (sym (replicate-append-replicate {A = ℕ} k n 0)) ∙ drop_at {A = ℕ} (replicate k 0) (replicate n 0) k (length-replicate {A = ℕ} k 0)

module _ (information : List ℕ) (small : length information ≤ 109) (checksum : ℕ) where
  abbrev n : ℕ
  n = length information

  -- the zeros after the checksum, the five of the tail first
  rest_zeros : drop 16 (drop n (replicate {A = ℕ} 130 0)) ≡ replicate 5 0 ++ replicate (109 - n) 0
  rest_zeros =
      let e : 130 ≡ (n + 16) + (5 + (109 - n)) = omega arith in
      drop-drop 16 n (replicate {A = ℕ} 130 0) ∙ ap (λ (k : ℕ). drop {A = ℕ} (n + 16) (replicate k 0)) e ∙ drop_zeros (n + 16) (5 + (109 - n))
      ∙ sym (replicate-append-replicate {A = ℕ} 5 (109 - n) 0)

  module _ {copied : List ℕ} (whole : copied ≡ information) {value : ℕ} (told : value ≡ checksum) {part : List ℕ}
      (unpacks : part ≡ bytes (unpacked (length (take (n + 16 - n) (drop n (copied ++ drop n (replicate {A = ℕ} 130 0))))) value)) where
    -- the places after the information
    back : drop n (copied ++ drop n (replicate {A = ℕ} 130 0)) ≡ drop n (replicate 130 0)
    back = drop_at copied (drop n (replicate {A = ℕ} 130 0)) n (ap length whole)

    sixteen : n + 16 - n ≡ 16
    sixteen = omega arith

    part_is : part ≡ bytes (unpacked 16 checksum)
    part_is =
        let room : length (take 16 (drop n (replicate {A = ℕ} 130 0))) ≡ 16 =
        length-take-le 16 (drop n (replicate {A = ℕ} 130 0)) (omega (arith, length-drop n (replicate {A = ℕ} 130 0), length-replicate {A = ℕ} 130 0)) in
        unpacks ∙ ap₂ (λ (k x : ℕ). bytes (unpacked k x)) (ap₂ (λ (k : ℕ) (l : List ℕ). length (take k l)) sixteen back ∙ room) told

    part_length : length part ≡ 16
    part_length = ap length part_is ∙ length-map (unpacked 16 checksum) byte ∙ unpacked-length 16 checksum

    pub filled : bits (take (n + 21) (put_mid n (n + 16 - n) (copied ++ drop n (replicate {A = ℕ} 130 0)) part)) ≡ inputs_of (bits information) checksum
    unfolding inputs_of
    filled =
        let front : take n (copied ++ drop n (replicate {A = ℕ} 130 0)) ≡ information = take_at copied (drop n (replicate {A = ℕ} 130 0)) n (ap length whole) ∙ whole in
        let all : put_mid n (n + 16 - n) (copied ++ drop n (replicate {A = ℕ} 130 0)) part ≡ (information ++ (part ++ replicate 5 0)) ++ replicate (109 - n) 0 =
        ap₂ (λ (a b : List ℕ). a ++ (part ++ b)) front (ap₂ (λ (k : ℕ) (l : List ℕ). drop k l) sixteen back ∙ rest_zeros)
        ∙ ap (λ (l : List ℕ). information ++ l) (sym (append_assoc part (replicate 5 0) (replicate (109 - n) 0)))
        ∙ sym (append_assoc information (part ++ replicate 5 0) (replicate (109 - n) 0)) in
        let size : length (information ++ (part ++ replicate 5 0)) ≡ n + 21 =
        length-append information (part ++ replicate 5 0) ∙ omega (arith, length-append part (replicate 5 0), part_length) in
        ap bits (ap (take (n + 21)) all ∙ take_at (information ++ (part ++ replicate 5 0)) (replicate (109 - n) 0) (n + 21) size)
        ∙ bits-append information (part ++ replicate 5 0)
        ∙ ap (λ (l : List Bool). bits information ++ l)
        (bits-append part (replicate 5 0) ∙ ap (λ (l : List Bool). l ++ replicate 5 false) (ap bits part_is ∙ bits-bytes (unpacked 16 checksum)))
