-- The diagonal and its inverse: twelve successive fields of a stream of rows complete a row of it. Assumes nothing.
use mathlib.Core.Path.{◌≡◌, refl, sym, ◌∙◌, ap, subst}
use mathlib.Core.Bool.{Bool, false}
use mathlib.Core.List.{List}
use Prim.Native.Nat.{ℕ, ◌+◌, ◌-◌, ◌%◌, ◌^◌, ◌<◌}
use native.Mathlib.Omega.{arith}
use lib.ListN.{get_or, length}
use Rattle.bits.specs.Numbers.{packed, unpacked}
use Rattle.bits.specs.Places.{listed}
use Rattle.bits.proofs.Listed.{length-listed, get_d_listed, is_listed}
use Rattle.bits.proofs.Packed.{packed_below, packed-unpacked_below, unpacked-packed}
use Rattle.bits.proofs.Ring.{Holds}
use Rattle.sacch_interleaver.specs.Diagonal.{bit_of, field_of, row_of}

-- ---- twelve bits as a number
pub twelve_below : (f : ℕ → Bool) → packed (listed 12 f) < 4096
twelve_below f = subst (λ (n : ℕ). packed (listed 12 f) < 2 ^ n) (length-listed 12 f) (packed_below (listed 12 f))

pub twelve_same : (f g : ℕ → Bool) → ((j : ℕ) → j < 12 → f j ≡ g j) → packed (listed 12 f) ≡ packed (listed 12 g)
twelve_same f g p = ap packed (is_listed 12 g false (listed 12 f) (length-listed 12 f) (λ j h. get_d_listed 12 f false j h ∙ p j h))

-- the twelve bits of a number
bits_of : (x : ℕ) → unpacked 12 x ≡ listed 12 (bit_of x)
unfolding unpacked listed
bits_of x = refl

pub twelve_again : (x : ℕ) → x < 4096 → packed (listed 12 (bit_of x)) ≡ x
twelve_again x h = ap packed (sym (bits_of x)) ∙ packed-unpacked_below 12 x h

pub bit_of_twelve : (f : ℕ → Bool) (j : ℕ) → j < 12 → bit_of (packed (listed 12 f)) j ≡ f j
bit_of_twelve f j h =
    let x : ℕ = packed (listed 12 f) in
    let same : listed 12 (bit_of x) ≡ listed 12 f =
    sym (bits_of x) ∙ ap (λ (n : ℕ). unpacked n x) (sym (length-listed 12 f)) ∙ unpacked-packed (listed 12 f) in
    sym (get_d_listed 12 (bit_of x) false j h) ∙ ap (λ (l : List Bool). get_or l j false) same ∙ get_d_listed 12 f false j h

-- ---- streams
-- the field of slot s of a stream of rows, where the row of slot s is E (s + 11)
abbrev pub diagonal : (ℕ → ℕ) → ℕ → ℕ
diagonal E s = packed (listed 12 (λ (j : ℕ). bit_of (E (s + (11 - j))) j))

pub diagonal_below : (E : ℕ → ℕ) (s : ℕ) → diagonal E s < 4096
diagonal_below E s = twelve_below (λ j. bit_of (E (s + (11 - j))) j)

pub undone : (E : ℕ → ℕ) (s : ℕ) → E (s + 11) < 4096 → packed (listed 12 (λ (j : ℕ). bit_of (diagonal E (s + j)) j)) ≡ E (s + 11)
undone E s h = twelve_same _ (bit_of (E (s + 11))) sent ∙ twelve_again (E (s + 11)) h
  where
    sent : (j : ℕ) → j < 12 → bit_of (diagonal E (s + j)) j ≡ bit_of (E (s + 11)) j
    sent j b =
        let e : s + j + (11 - j) ≡ s + 11 = omega arith in
        bit_of_twelve (λ i. bit_of (E (s + j + (11 - i))) i) j b ∙ ap (λ (k : ℕ). bit_of (E k) j) e

-- ---- rings of twelve that hold a stream
pub row_of_lem : (l : List ℕ) (c : ℕ) (F : ℕ → ℕ) (n : ℕ) → Holds 12 l c F n → row_of l c ≡ packed (listed 12 (λ (j : ℕ). bit_of (F (n + j)) j))
unfolding row_of
row_of_lem l c F n h = twelve_same _ _ (λ j b. ap (λ (x : ℕ). bit_of x j) (h j b))

pub field_of_lem : (l : List ℕ) (c : ℕ) (E : ℕ → ℕ) (n : ℕ) → Holds 12 l c E n → field_of l c ≡ diagonal E n
unfolding field_of
field_of_lem l c E n h = twelve_same _ _ (λ j b. ap (λ (x : ℕ). bit_of x j) (h (11 - j) (omega arith)))

-- The row of a ring is the field of the ring turned round.
pub turned_round : (l turned : List ℕ) (next : ℕ) → length l ≡ 12 → next < 12 → ((k : ℕ) → k < 12 → get_or turned k 0 ≡ get_or l (length l - 1 - k) 0)
    → field_of turned (12 - next) ≡ row_of l next
unfolding field_of row_of
turned_round l turned next size h same =
    twelve_same _ _
    (λ j b.
    let place : length l - 1 - (12 - next + (11 - j)) % 12 ≡ (next + j) % 12 = omega arith in
    ap (λ (x : ℕ). bit_of x j) (same ((12 - next + (11 - j)) % 12) (omega arith) ∙ ap (λ (k : ℕ). get_or l k 0) place))

-- ---- what rings give has twelve bits
pub field_fits : (l : List ℕ) (c : ℕ) → field_of l c < 4096
unfolding field_of
field_fits l c = twelve_below (λ j. bit_of (get_or l ((c + (11 - j)) % 12) 0) j)
