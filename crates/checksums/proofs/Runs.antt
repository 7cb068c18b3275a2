-- The 16-bit checksum from a given register: runs join, and from zero it is the remainder of the division. Assumes nothing.
use mathlib.Core.Path.{◌≡◌, refl, sym, ap, ◌∙◌}
use mathlib.Core.Bool.{Bool}
use mathlib.Core.List.{List, ◌++◌}
use Prim.Native.Nat.{ℕ}
use Rattle.bits.specs.Numbers.{packed, unpacked}
use Rattle.checksums.specs.Checksums.{ccitt, check_bits, checksum_from, checksum_of}
use Rattle.checksums.specs.Feedback.{register_after}
use Rattle.checksums.proofs.Shifting.{after-append, after_zero}

-- it is the register of 16 bits, with the polynomial 1021
pub from_after : (register : ℕ) (u : List Bool) → checksum_from register u ≡ register_after 16 4129 register u
unfolding checksum_from register_after unpacked
from_after register u = refl

-- over one run of bits and then over a second it is that over both joined
pub runs_join : (register : ℕ) (u v : List Bool) → checksum_from (checksum_from register u) v ≡ checksum_from register (u ++ v)
runs_join register u v =
    from_after (checksum_from register u) v ∙ ap (λ (r : ℕ). register_after 16 4129 r v) (from_after register u) ∙ after-append 16 4129 register u v
    ∙ sym (from_after register (u ++ v))

-- from zero it is what the division leaves of the bits followed by zeros
pub from_zero : (u : List Bool) → checksum_from 0 u ≡ packed (check_bits ccitt u)
unfolding unpacked
from_zero u = from_after 0 u ∙ after_zero 16 4129 u

-- from zero over a colour code and then the information it is their checksum
pub from_colour : (information : List Bool) (dvcc : ℕ) → checksum_from (checksum_from 0 (unpacked 8 dvcc)) information ≡ checksum_of information dvcc
unfolding checksum_of
from_colour information dvcc = runs_join 0 (unpacked 8 dvcc) information ∙ from_zero (unpacked 8 dvcc ++ information)
