-- The inputs of a frame: the class-one bits among zeros, and the checksum bits put at their places. Assumes nothing.
use mathlib.Core.Path.{◌≡◌, refl, sym, ap, ap₂, subst, ◌∙◌}
use mathlib.Core.Bool.{Bool, false}
use mathlib.Core.List.{List, [], ◌++◌}
use Prim.Native.Nat.{ℕ}
use native.Mathlib.Omega.{arith}
use lib.ListN.{length, length-append, get_or, replicate}
use Rattle.bits.specs.Bits.{bits, bytes}
use Rattle.bits.specs.Numbers.{unpacked}
use Rattle.bits.specs.Places.{listed, place_in, taken, put, Apart}
use Rattle.bits.proofs.Binary.{bits-bytes}
use Rattle.bits.proofs.Listed.{length-listed, is_listed}
use Rattle.bits.proofs.Permuted.{stands}
use Rattle.bits.proofs.PlacesMoved.{stands_apart, bits-put}
use Rattle.checksums.specs.Checksums.{checksum7_of}
use Rattle.speech.specs.Inputs.{parity_places, significant_places, parity_of, inputs_with, inputs_of}

-- a list of length n, by its places
pub by_places : {A : Type 0} (d : A) (n : ℕ) (l : List A) → length l ≡ n → l ≡ listed n (λ i. get_or l i d)
by_places d n l e = is_listed n _ d l e (λ i h. refl)

-- ---- the places of both tables, each by one test
pub significant_apart : Apart significant_places 89
unfolding stands place_in
significant_apart = stands_apart significant_places 12 89 refl tt

pub parity_apart : Apart parity_places 89
unfolding stands place_in
parity_apart = stands_apart parity_places 7 89 refl tt

-- what the inputs of class-one bits have room for
pub room_for_parity : (one : List ℕ) {part : List ℕ} → length one ≡ 77 → part ≡ one → Apart parity_places (length (replicate 4 0 ++ (part ++ replicate 8 0)))
room_for_parity one {part} size copied =
    let e : length (replicate 4 0 ++ (part ++ replicate 8 0)) ≡ 89 = omega (arith, length-append part (replicate 8 0), ap length copied ∙ size) in
    subst (Apart parity_places) (sym e) parity_apart

-- ---- the class-one bits, copied into zeros, and the checksum bits put among them
with_none : (f : ℕ → ℕ) → bits (replicate 4 0 ++ (listed 77 f ++ replicate 8 0)) ≡ inputs_with (bits (listed 77 f)) []
unfolding inputs_with listed place_in
with_none f = refl

parity_put : (one parity : List Bool) → put false parity_places parity (inputs_with one []) ≡ inputs_with one parity
unfolding put inputs_with listed place_in
parity_put one parity = refl

pub inputs_filled : (one : List ℕ) {part inputs : List ℕ} {checksum : ℕ} → length one ≡ 77 → part ≡ one
    → checksum ≡ checksum7_of (taken false significant_places (bits (replicate 4 0 ++ (part ++ replicate 8 0))))
    → inputs ≡ put 0 parity_places (bytes (unpacked 7 checksum)) (replicate 4 0 ++ (part ++ replicate 8 0)) → bits inputs ≡ inputs_of (bits one)
unfolding inputs_of parity_of
inputs_filled one {part} {checksum = checksum} size copied ec e =
    let unchecked : List ℕ = replicate 4 0 ++ (part ++ replicate 8 0) in
    let l : one ≡ listed 77 (λ i. get_or one i 0) = by_places 0 77 one size in
    let filled : bits unchecked ≡ inputs_with (bits one) [] =
    ap (λ (p : List ℕ). bits (replicate 4 0 ++ (p ++ replicate 8 0))) (copied ∙ l)
    ∙ with_none (λ i. get_or one i 0) ∙ ap (λ (p : List ℕ). inputs_with (bits p) []) (sym l) in
    ap bits e ∙ bits-put parity_places (bytes (unpacked 7 checksum)) unchecked
    ∙ ap₂ (put false parity_places)
    (bits-bytes (unpacked 7 checksum) ∙ ap (unpacked 7) (ec ∙ ap (λ (u : List Bool). checksum7_of (taken false significant_places u)) filled)) filled
    ∙ parity_put (bits one) _

pub inputs_length : (one : List Bool) → length (inputs_of one) ≡ 89
unfolding inputs_of inputs_with
inputs_length one = length-listed 89 _
