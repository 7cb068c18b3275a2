-- The checksum after the information of a word, tested. Assumes nothing.
use mathlib.Core.Path.{◌≡◌, sym, ap, ◌∙◌}
use mathlib.Core.Bool.{Bool, true}
use mathlib.Core.List.{List, ◌++◌}
use Prim.Native.Nat.{ℕ, ◌+◌, ◌-◌, ◌<◌}
use lib.Dec.{eqb}
use lib.ListN.{length, take, drop}
use lib.Seq.{take_at, drop_at}
use borrow.Author.Tests.{eq-eqb}
use Rattle.bits.specs.Bits.{bits}
use Rattle.bits.specs.Numbers.{packed, unpacked}
use Rattle.bits.proofs.Binary.{bits-take}
use Rattle.bits.proofs.Packed.{part_bits, packed-unpacked_below, unpacked-length}
use Rattle.checksums.specs.Checksums.{carries}

pub carries_is : (l : List ℕ) (at checksum : ℕ) {received : ℕ} → received ≡ packed (bits (take (at + 16 - at) (drop at l)))
    → eqb received checksum ≡ carries at (bits l) checksum
unfolding carries
carries_is l at checksum e = ap (λ (x : ℕ). eqb x checksum) (e ∙ ap packed (part_bits 16 at l))

-- a checksum of the first n bits, of any kind
module _ (sum : List Bool → ℕ) (n : ℕ) where
  -- tested after those bits
  pub carries_sum : (l : List ℕ) {right : Bool} {checksum : ℕ} → checksum ≡ sum (bits (take n l)) → right ≡ carries n (bits l) checksum
      → right ≡ carries n (bits l) (sum (take n (bits l)))
  carries_sum l e r = r ∙ ap (carries n (bits l)) (e ∙ ap sum (bits-take n l))

  -- information followed by its own, whatever comes after
  pub carries_own : (information rest : List Bool) → sum information < 65536 → n ≡ length information
      → carries n (information ++ (unpacked 16 (sum information) ++ rest)) (sum (take n (information ++ (unpacked 16 (sum information) ++ rest)))) ≡ true
  unfolding carries
  carries_own information rest below e =
      let after : List Bool = unpacked 16 (sum information) ++ rest in
      let sent : packed (take 16 (drop n (information ++ after))) ≡ sum information =
      ap (λ (l : List Bool). packed (take 16 l)) (drop_at information after n (sym e))
      ∙ ap packed (take_at (unpacked 16 (sum information)) rest 16 (unpacked-length 16 (sum information))) ∙ packed-unpacked_below 16 (sum information) below in
      eq-eqb _ _ (sent ∙ ap sum (sym (take_at information after n (sym e))))
