-- What the checksums answer, from what their calls ensure. Assumes nothing.
use mathlib.Core.Path.{◌≡◌, sym, ap, subst, ◌∙◌}
use mathlib.Core.Bool.{Bool}
use mathlib.Core.List.{List, ◌++◌}
use Prim.Native.Nat.{ℕ, ◌/◌, ◌%◌, ◌^◌, ◌<◌}
use lib.ListN.{length}
use Rattle.bits.specs.Bits.{bits}
use Rattle.bits.specs.Numbers.{packed, unpacked}
use Rattle.bits.proofs.Packed.{packed_below}
use Rattle.checksums.proofs.Division.{check_bits-length}
use Rattle.checksums.specs.Checksums.{check_bits, ccitt, speech, checksum_from, checksum_of, checksum7_of}
use Rattle.checksums.specs.Feedback.{register_after}
use Rattle.checksums.proofs.Shifting.{after_zero}
use Rattle.checksums.proofs.Fours.{two_fours}
use Rattle.checksums.proofs.Runs.{from_after, runs_join, from_colour}

-- ---- the values
-- the colour code in two fours, and then the information
pub value16 : (l : List ℕ) (dvcc : ℕ) {x y r : ℕ} → x ≡ register_after 16 4129 0 (unpacked 4 (dvcc / 16))
    → y ≡ register_after 16 4129 x (unpacked 4 (dvcc % 16)) → r ≡ checksum_from y (bits l) → r ≡ checksum_of (bits l) dvcc
value16 l dvcc {x} {y} ex ey e =
    let colour : y ≡ checksum_from 0 (unpacked 8 dvcc) =
    ey ∙ sym (from_after x (unpacked 4 (dvcc % 16)))
    ∙ ap (λ (h : ℕ). checksum_from h (unpacked 4 (dvcc % 16))) (ex ∙ sym (from_after 0 (unpacked 4 (dvcc / 16))))
    ∙ runs_join 0 (unpacked 4 (dvcc / 16)) (unpacked 4 (dvcc % 16)) ∙ ap (checksum_from 0) (two_fours dvcc) in
    e ∙ ap (λ (h : ℕ). checksum_from h (bits l)) colour ∙ from_colour (bits l) dvcc

pub value7 : (l : List ℕ) {r : ℕ} → r ≡ register_after 7 55 0 (bits l) → r ≡ checksum7_of (bits l)
unfolding checksum7_of unpacked
value7 l e = e ∙ after_zero 7 55 (bits l)

-- a checksum has 16 bits
pub checksum_below : (information : List Bool) (dvcc : ℕ) → checksum_of information dvcc < 65536
unfolding checksum_of
checksum_below information dvcc =
    let u : List Bool = check_bits ccitt (unpacked 8 dvcc ++ information) in
    let l : length u ≡ 16 = check_bits-length ccitt (unpacked 8 dvcc ++ information) in
    subst (λ (n : ℕ). packed u < 2 ^ n) l (packed_below u)

-- seven bits
pub checksum7_below : (u : List Bool) → checksum7_of u < 2 ^ 7
unfolding checksum7_of
checksum7_below u = subst (λ (n : ℕ). packed (check_bits speech u) < 2 ^ n) (check_bits-length speech u) (packed_below (check_bits speech u))
