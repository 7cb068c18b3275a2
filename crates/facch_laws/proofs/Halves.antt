-- A word comes back from the two slots that carry it, and each slot alone gives the half that it carries: 130 bits. Assumes nothing.
use mathlib.Core.Path.{◌≡◌, refl, sym, ap, ap₂, ◌∙◌}
use mathlib.Core.Bool.{Bool, true, false, cond}
use mathlib.Core.List.{List, [], ◌∷◌}
use Prim.Native.Nat.{ℕ, zero, suc, ◌+◌, ◌/◌, ◌%◌, ◌<◌}
use native.Mathlib.Omega.{arith}
use lib.Dec.{eqb}
use lib.ListN.{length, get_or, replicate, get_or-replicate}
use Rattle.bits.specs.Bits.{byte, all_binary}
use Rattle.std.specs.Prelude.{Ok}
use Rattle.bits.specs.Places.{listed, place_in}
use Rattle.bits.proofs.Binary.{binary_at}
use Rattle.bits.specs.Arguments.{Arguments}
use Rattle.facch_interleaver.specs.declared.WordHalf.{WordHalf}
use Rattle.facch_interleaver.specs.declared.WordHalf.TheVariants.{Start, End}
use Rattle.interleaving.specs.Slots.{by_row}
use Rattle.interleaving.specs.Calls.{two_arguments}
use Rattle.interleaving.proofs.RoundTrip.{between_two}
use Rattle.bits.proofs.Refusing.{passed_two, two_passed}
use Rattle.facch_interleaver.specs.Wire.{table, place_of, place_at, wire_of, interleaved, deinterleaved, observed, Interleaving, Deinterleaving}
use Rattle.bits.specs.Observed.{observed_one, observed_count}
use Rattle.facch_interleaver.specs.Laws.{order_laws}
use Rattle.facch_interleaver.proofs.Interleaved.{interleaved-length, deinterleaved-length, interleaved_at, deinterleaved_at, binary_interleaved}
use Rattle.bits.proofs.Erased.{not_observed, is_observed}

module _ {A : Type 0} (d : A) where
  -- what a slot carries of a word: its even rows of the one before it, its odd rows of its own
  module _ (word : List A) (place : ℕ) (h : place < 260) where
    carried : (u : List A) → u ≡ word → get_or u (place_at (wire_of place)) d ≡ get_or word place d
    carried u e = ap₂ (λ (l : List A) (p : ℕ). get_or l p d) e (order_laws.place_of_wire place h)

    pub even_row : (next : List A) → eqb (wire_of place / 10 % 2) 0 ≡ true → get_or (interleaved d word next) (wire_of place) d ≡ get_or word place d
    even_row next e = interleaved_at d word next (wire_of place) (order_laws.wire_below place h) ∙ carried _ (ap (λ (b : Bool). cond b word next) e)

    pub odd_row : (previous : List A) → eqb (wire_of place / 10 % 2) 0 ≡ false → get_or (interleaved d previous word) (wire_of place) d ≡ get_or word place d
    odd_row previous e = interleaved_at d previous word (wire_of place) (order_laws.wire_below place h) ∙ carried _ (ap (λ (b : Bool). cond b previous word) e)

  -- ---- two slots
  pub facch_slots_round_trip : (previous word next : List A) → length word ≡ 260 → deinterleaved d (interleaved d previous word) (interleaved d word next) ≡ word
  unfolding interleaved deinterleaved
  facch_slots_round_trip previous word next size = between_two d place_at wire_of order_laws.wire_below order_laws.place_of_wire previous word next size

-- the same of the calls
pub slotted : (previous current : List ℕ) (r : Arguments) {slot₀ slot : List ℕ} → two_arguments previous current (length slot₀) ≡ Ok tt → Interleaving previous current slot₀ slot r
    → (slot ≡ interleaved 0 previous current) × (length slot ≡ 260) × (all_binary slot ≡ true)
slotted previous current r {slot₀} {slot} f i =
    let b = (passed_two 260 previous 260 current 260 (length slot₀) refl f).1 in
    let s : slot ≡ interleaved 0 previous current = (i.done f).1 in
    (s, ap length s ∙ interleaved-length 0 previous current, ap all_binary s ∙ binary_interleaved previous current b.0 b.1)

pub facch_slot_calls_round_trip : (previous word next : List ℕ) (r r' r'' : Arguments) {slot₀ slot slot₀' slot' coded₀ coded : List ℕ}
    → two_arguments previous word (length slot₀) ≡ Ok tt → two_arguments word next (length slot₀') ≡ Ok tt → length coded₀ ≡ 260
    → Interleaving previous word slot₀ slot r → Interleaving word next slot₀' slot' r' → Deinterleaving slot slot' coded₀ coded r''
    → (r'' ≡ Ok tt) × (coded ≡ word)
facch_slot_calls_round_trip previous word next r r' r'' {slot₀} {slot} {slot₀'} {slot'} {coded₀} {coded} f f' room i i' e =
    let s = slotted previous word r f i in
    let s' = slotted word next r' f' i' in
    let d = e.done (two_passed 260 slot 260 slot' 260 (length coded₀) s.1 s'.1 room s.2 s'.2) in
    (d.0, d.1 ∙ ap₂ (deinterleaved 0) s.0 s'.0 ∙ facch_slots_round_trip 0 previous word next (passed_two 260 previous 260 word 260 (length slot₀) refl f).0.1)

-- ---- one slot
-- the first of a word's slots carries the places in its odd rows, the second those in its even rows
abbrev pub carries : WordHalf → ℕ → Bool
carries Start place = by_row false true (wire_of place / 10)
carries End place = by_row true false (wire_of place / 10)

-- the slot that carries a half of a word, beside a half of another word
abbrev pub slot_of : WordHalf → List ℕ → List ℕ → List ℕ
slot_of Start other word = interleaved 0 other word
slot_of End other word = interleaved 0 word other

pub observed-length : (half : WordHalf) (slot : List ℕ) → length (observed half slot) ≡ 260
observed-length Start slot = deinterleaved-length 0 slot (replicate 260 2)
observed-length End slot = deinterleaved-length 0 (replicate 260 2) slot

module _ (place : ℕ) (h : place < 260) where
  unread : get_or {A = ℕ} (replicate 260 2) (wire_of place) 0 ≡ 2
  unread = get_or-replicate {A = ℕ} 260 (wire_of place) 2 0 (order_laws.wire_below place h)

  observed_at_lem : (half : WordHalf) (slot : List ℕ) → get_or (observed half slot) place 0 ≡ cond (carries half place) (get_or slot (wire_of place) 0) 2
  observed_at_lem Start slot = deinterleaved_at 0 slot (replicate 260 2) place h ∙ go (eqb (wire_of place / 10 % 2) 0)
    where
      go : (b : Bool) → get_or (cond b (replicate 260 2) slot) (wire_of place) 0 ≡ cond (cond b false true) (get_or slot (wire_of place) 0) 2
      go true = unread
      go false = refl
  observed_at_lem End slot = deinterleaved_at 0 (replicate 260 2) slot place h ∙ go (eqb (wire_of place / 10 % 2) 0)
    where
      go : (b : Bool) → get_or (cond b slot (replicate 260 2)) (wire_of place) 0 ≡ cond (cond b true false) (get_or slot (wire_of place) 0) 2
      go true = refl
      go false = unread

module _ (word : List ℕ) (place : ℕ) (h : place < 260) where
  pub start_observed : (previous : List ℕ) → get_or (observed Start (interleaved 0 previous word)) place 0 ≡ cond (carries Start place) (get_or word place 0) 2
  start_observed previous = observed_at_lem place h Start (interleaved 0 previous word) ∙ go (eqb (wire_of place / 10 % 2) 0) refl
    where
      go : (b : Bool) → eqb (wire_of place / 10 % 2) 0 ≡ b
          → cond (cond b false true) (get_or (interleaved 0 previous word) (wire_of place) 0) 2 ≡ cond (cond b false true) (get_or word place 0) 2
      go true e = refl
      go false e = odd_row 0 word place h previous e

  pub end_observed : (next : List ℕ) → get_or (observed End (interleaved 0 word next)) place 0 ≡ cond (carries End place) (get_or word place 0) 2
  end_observed next = observed_at_lem place h End (interleaved 0 word next) ∙ go (eqb (wire_of place / 10 % 2) 0) refl
    where
      go : (b : Bool) → eqb (wire_of place / 10 % 2) 0 ≡ b
          → cond (cond b true false) (get_or (interleaved 0 word next) (wire_of place) 0) 2 ≡ cond (cond b true false) (get_or word place 0) 2
      go true e = even_row 0 word place h next e
      go false e = refl

  pub word-observed : (half : WordHalf) (other : List ℕ) → get_or (observed half (slot_of half other word)) place 0 ≡ cond (carries half place) (get_or word place 0) 2
  word-observed Start other = start_observed other
  word-observed End other = end_observed other

-- ---- the number of observed bits
-- how many of the numbers below n pass a test
among : ℕ → (ℕ → Bool) → ℕ
among zero g = 0
among (suc n) g = byte (g 0) + among n (λ i. g (suc i))

counted : (l : List ℕ) (g : ℕ → Bool) → ((k : ℕ) → k < length l → observed_one (get_or l k 0) ≡ byte (g k)) → observed_count l ≡ among (length l) g
unfolding observed_count among
counted [] g p = refl
counted (x ∷ l) g p = ap₂ (λ (m n : ℕ). m + n) (p 0 (omega arith)) (counted l (λ k. g (suc k)) (λ k h. p (suc k) (omega arith)))

half_rows : (half : WordHalf) → among 260 (carries half) ≡ 130
unfolding among table place_of wire_of listed place_in
half_rows Start = refl
half_rows End = refl

-- of bytes that are bits where a half is carried and 2 elsewhere
pub half_count : (half : WordHalf) (l : List ℕ) (f : ℕ → ℕ) → length l ≡ 260 → ((place : ℕ) → place < 260 → f place < 2)
    → ((place : ℕ) → place < 260 → get_or l place 0 ≡ cond (carries half place) (f place) 2) → observed_count l ≡ 130
half_count half l f size low at =
    counted l (carries half) (λ k h. ap observed_one (at k (omega arith)) ∙ go (carries half k) (f k) (low k (omega arith)))
    ∙ ap (λ (n : ℕ). among n (carries half)) size ∙ half_rows half
  where
    go : (b : Bool) (x : ℕ) → x < 2 → observed_one (cond b x 2) ≡ byte b
    go true x h = sym (is_observed x (λ e. omega arith))
    go false x h = sym (not_observed 2 refl)

pub half_observed : (slot : List ℕ) → all_binary slot ≡ true → length slot ≡ 260 → (half : WordHalf) → observed_count (observed half slot) ≡ 130
half_observed slot binary size half =
    half_count half (observed half slot) (λ place. get_or slot (wire_of place) 0) (observed-length half slot)
    (λ place h. binary_at slot binary (wire_of place) (omega (arith, order_laws.wire_below place h))) (λ place h. observed_at_lem place h half slot)
