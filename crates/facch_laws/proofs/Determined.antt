-- Either half of a FACCH word's coded bits, as one slot carries it, determines the word. Assumes nothing.
use mathlib.Core.Path.{◌≡◌, refl, sym, ap, subst, ◌∙◌}
use mathlib.Core.Bool.{Bool, true, false, cond}
use mathlib.Core.List.{List}
use Prim.Native.Nat.{ℕ, zero, suc, ◌+◌, ◌*◌, ◌%◌, ◌<◌}
use native.Mathlib.Omega.{arith}
use lib.Dec.{T}
use lib.ListN.{length, get_or, get_or-map}
use lib.Seq.{ext_get_or}
use Rattle.bits.specs.Bits.{byte, bytes}
use Rattle.bits.specs.Places.{listed, place_in}
use Rattle.bits.proofs.Binary.{byte_one}
use Rattle.bits.proofs.Tested.{both, both_left, both_right, every, below}
use Rattle.facch_interleaver.specs.declared.WordHalf.{WordHalf}
use Rattle.facch_interleaver.specs.declared.WordHalf.TheVariants.{Start, End}
use Rattle.facch_interleaver.specs.Wire.{table, place_of, wire_of, interleaved, observed}
use Rattle.facch.specs.Words.{tail_biting}
use Rattle.facch_laws.proofs.Halves.{carries, slot_of, word-observed}
use Rattle.facch_laws.proofs.Taps.{circle, sends}
use Rattle.facch_laws.proofs.Shown.{Agree, SameSent, same_newest, same_five, grown}

-- the places that a half carries
abbrev pub Carried : WordHalf → ℕ → Type 0
Carried half place = T (carries half place)

-- ---- the carried places, by a test over the slot's rows
-- the step to begin at
abbrev from : WordHalf → ℕ
from Start = 0
from End = 23

-- the place of generator k's output at step s, counted from step m
abbrev place_from : ℕ → ℕ → ℕ → ℕ
place_from m s k = (m + s) % 65 * 4 + k

-- the test passes at a number below n
unfoldable some : (ℕ → Bool) → ℕ → Bool
some f zero = false
some f (suc n) = cond (f n) true (some f n)

at_some : {A : Type 0} (f : ℕ → Bool) (n : ℕ) → T (some f n) → ((k : ℕ) → k < n → T (f k) → A) → A
unfolding some
at_some f zero t g = absurd t
at_some {A} f (suc n) t g = go (f n) refl t (λ s. at_some f n s (λ k h. g k (omega arith)))
  where
    go : (b : Bool) → f n ≡ b → T (cond b true (some f n)) → (T (some f n) → A) → A
    go true e s later = g n (omega arith) (subst T (sym e) tt)
    go false e s later = later s

-- a step's first and third outputs are carried
abbrev pair : WordHalf → ℕ → Bool
pair half s = both (carries half (place_from (from half) s 0)) (carries half (place_from (from half) s 2))

-- one output of a step is carried
abbrev single : WordHalf → ℕ → Bool
single half s = some (λ k. carries half (place_from (from half) s k)) 4

pairs : (half : WordHalf) → T (every (pair half) 5)
unfolding wire_of place_in listed place_of table
pairs Start = tt
pairs End = tt

singles : (half : WordHalf) → T (every (single half) 60)
unfolding some wire_of place_in listed place_of table
singles Start = tt
singles End = tt

-- ---- the theorem
pub half_determines : (half : WordHalf) (u w : List Bool) → length u ≡ 65 → length w ≡ 65
    → ((place : ℕ) → place < 260 → Carried half place → get_or (tail_biting u) place false ≡ get_or (tail_biting w) place false)
    → u ≡ w
half_determines half u w hu hw same = ext_get_or false u w (hu ∙ sym hw) (λ j h. bit_same j (omega arith))
  where
    m : ℕ
    m = from half

    x : ℕ → Bool
    x = circle u m

    y : ℕ → Bool
    y = circle w m

    same_sent : (s k : ℕ) → k < 4 → Carried half (place_from m s k) → SameSent x y k s
    same_sent s k h c = sym (sends u hu m s k h) ∙ same (place_from m s k) (omega arith) c ∙ sends w hw m s k h

    five : Agree x y 5
    five =
        same_five x y
        (λ s h.
        let t : T (pair half s) = below (pair half) 5 (pairs half) s h in
        (same_sent s 0 (omega arith) (both_left (carries half (place_from m s 0)) _ t), same_sent s 2 (omega arith) (both_right (carries half (place_from m s 0)) _ t)))

    all : Agree x y 65
    all =
        grown x y five 60
        (λ s h a.
        at_some (λ k. carries half (place_from m s k)) 4 (below (single half) 60 (singles half) s h)
        (λ k b c. same_newest x y s k b a (same_sent s k b c)))

    bit_same : (j : ℕ) → j < 65 → get_or u j false ≡ get_or w j false
    bit_same j h =
        let e : j ≡ (m + (j + 64 * m) % 65) % 65 = omega arith in
        ap (λ (n : ℕ). get_or u n false) e ∙ all ((j + 64 * m) % 65) (omega arith) ∙ sym (ap (λ (n : ℕ). get_or w n false) e)

-- so do all its coded bits
pub whole_determines : (u w : List Bool) → length u ≡ 65 → length w ≡ 65 → tail_biting u ≡ tail_biting w → u ≡ w
whole_determines u w hu hw e = half_determines Start u w hu hw (λ place h c. ap (λ (l : List Bool). get_or l place false) e)

-- ---- what a slot gives of a word determines it, whatever the other word in the slot
same_byte : (u w : List Bool) (place : ℕ) → get_or (bytes u) place 0 ≡ get_or (bytes w) place 0 → get_or u place false ≡ get_or w place false
same_byte u w place e = byte_one _ _ (sym (get_or-map byte u place false) ∙ e ∙ get_or-map byte w place false)

given : (b : Bool) (m n : ℕ) → T b → cond b m 2 ≡ cond b n 2 → m ≡ n
given true m n t e = e
given false m n t e = absurd t

module _ (u w : List Bool) (hu : length u ≡ 65) (hw : length w ≡ 65) (other other' : List ℕ) where
  observed_determines : (half : WordHalf) → observed half (slot_of half other (bytes (tail_biting u))) ≡ observed half (slot_of half other' (bytes (tail_biting w))) → u ≡ w
  observed_determines half e =
      half_determines half u w hu hw
      (λ place h c. same_byte (tail_biting u) (tail_biting w) place
      (given (carries half place) _ _ c
      (sym (word-observed (bytes (tail_biting u)) place h half other) ∙ ap (λ (l : List ℕ). get_or l place 0) e ∙ word-observed (bytes (tail_biting w)) place h half other')))

  pub start_determines : observed Start (interleaved 0 other (bytes (tail_biting u))) ≡ observed Start (interleaved 0 other' (bytes (tail_biting w))) → u ≡ w
  start_determines e = observed_determines Start e

  pub end_determines : observed End (interleaved 0 (bytes (tail_biting u)) other) ≡ observed End (interleaved 0 (bytes (tail_biting w)) other') → u ≡ w
  end_determines e = observed_determines End e
