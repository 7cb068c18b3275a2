-- The output bits of a place are the code's of its state and input, for any code, so that rows filled by place give the metrics of the code's words. Assumes nothing.
use mathlib.Core.Path.{◌≡◌, refl, sym, ap, ap₂, ◌∙◌}
use mathlib.Core.Bool.{Bool, true, false, not, ◌&&◌}
use mathlib.Core.List.{List, [], ◌∷◌, map, reverse}
use Prim.Native.Nat.{ℕ, zero, suc, ◌+◌, ◌*◌, ◌/◌, ◌%◌, ◌<◌, ◌≤◌, min}
use native.Mathlib.Omega.{arith}
use native.Mathlib.Nat.{zero-add, min-le_left}
use lib.Bits.{bit_and, and_step, and_zero_r}
use lib.Count.{ones, ones_step}
use lib.Dec.{eqb, eqb→eq}
use lib.ListN.{length, get_or, drop, length-map}
use Rattle.bits.specs.Bits.{bit, byte, tally, ◌⊕◌}
use Rattle.bits.specs.Observed.{erased_differ}
use Rattle.bits.specs.Places.{place_in, listed}
use Rattle.bits.proofs.Binary.{bit_byte, byte_below, byte-bit_any}
use Rattle.bits.proofs.Tested.{below, below_bit, same_bits, same_bits_eq}
use Rattle.coding.specs.Codes.{tapped, outputs, coded}
use Rattle.coding.specs.Registers.{memory_low}
use Rattle.coding.specs.Laws.{AtMostSix}
use Rattle.search.specs.Forward.{branch_by}
use Rattle.trellis.specs.Numbering.{newest_low}
use Rattle.search.specs.Row.{place_of, register_at, taps_of, output_at, distance_at, OutputsOf, OutputsTo}
use Rattle.trellis.specs.Words.{branch_of, word_metric}
use Rattle.trellis.proofs.Distance.{distance}
use Rattle.trellis.proofs.Registers.{register_low_lem, same_numbers}
use Rattle.trellis.proofs.Renumber.{metric_same}
use Rattle.search.proofs.Running.{place_below}

-- ---- the bytes of `outputs`
-- the register of a place by arithmetic
pub register_of : (place : ℕ) → place < 64 → (place % 16 + place / 32 * 16) * 2 + place / 16 % 2 ≡ register_at place
unfolding register_at place_in listed
register_of place h = eqb→eq _ _ (below (λ (p : ℕ). eqb ((p % 16 + p / 32 * 16) * 2 + p / 16 % 2) (register_at p)) 64 tt place h)

-- the parity of a count of ones, as a bit and as a byte
pub output-byte : (taps place register x : ℕ) → register ≡ register_at place → x ≡ ones (bit_and register taps) % 2 → x ≡ byte (output_at taps place)
unfolding output_at
output-byte taps place register x er ex = ex ∙ ap (λ (r : ℕ). ones (bit_and r taps) % 2) er ∙ sym (byte-bit_any _)

-- ---- parities and tapped inputs
-- the n lowest bits of a number, the lowest first
abbrev low_bits : ℕ → ℕ → List Bool
low_bits zero r = []
low_bits (suc n) r = bit r ∷ low_bits n (r / 2)

one_more : (n : ℕ) → bit (1 + n) ≡ not (bit n)
one_more n = go (n % 2) ((1 + n) % 2) (omega arith) (omega arith)
  where
    go : (x y : ℕ) → x < 2 → y ≡ (1 + x) % 2 → eqb y 1 ≡ not (eqb x 1)
    go zero y h e = ap (λ (z : ℕ). eqb z 1) e
    go (suc zero) y h e = ap (λ (z : ℕ). eqb z 1) e
    go (suc (suc x)) y h e = let z : ⊥ = omega arith in absurd z

-- one digit of a register, y, under its coefficient, and n ones above
digit : (y : ℕ) (g : Bool) (n : ℕ) → y < 2 → bit (min y (byte g) + n) ≡ (g && eqb y 1) ⊕ bit n
digit zero false n h = ap bit (zero-add n)
digit zero true n h = ap bit (zero-add n)
digit (suc zero) false n h = ap bit (zero-add n)
digit (suc zero) true n h = one_more n
digit (suc (suc y)) g n h = let z : ⊥ = omega arith in absurd z

ones_digit : (a d : ℕ) → d < 2 → ones (a * 2 + d) ≡ d + ones a
ones_digit a d h =
    let p : (a * 2 + d) % 2 ≡ d = omega arith in
    let q : (a * 2 + d) / 2 ≡ a = omega arith in
    ones_step (a * 2 + d) ∙ ap₂ (λ (x y : ℕ). x + ones y) p q

parity_step : (r t : ℕ) (g : Bool) → bit (ones (bit_and r (t * 2 + byte g))) ≡ (g && bit r) ⊕ bit (ones (bit_and (r / 2) t))
parity_step r t g =
    let b : byte g < 2 = byte_below g in
    let p : (t * 2 + byte g) / 2 ≡ t = omega arith in
    let q : (t * 2 + byte g) % 2 ≡ byte g = omega arith in
    let h : r % 2 < 2 = omega arith in
    ap (λ (n : ℕ). bit (ones n)) (and_step r (t * 2 + byte g) ∙ ap₂ (λ (x y : ℕ). bit_and (r / 2) x * 2 + min (r % 2) y) p q)
    ∙ ap bit (ones_digit (bit_and (r / 2) t) (min (r % 2) (byte g)) (omega (arith, min-le_left (r % 2) (byte g))))
    ∙ digit (r % 2) g (ones (bit_and (r / 2) t)) h

parity_tapped : (g : List Bool) (n r : ℕ) → length g ≤ n → bit (ones (bit_and r (taps_of g))) ≡ tapped g (low_bits n r)
unfolding tapped ones
parity_tapped [] n r h = ap (λ (x : ℕ). bit (ones x)) (and_zero_r r)
parity_tapped (a ∷ g) zero r h = let z : ⊥ = omega arith in absurd z
parity_tapped (a ∷ g) (suc n) r h = parity_step r (taps_of g) a ∙ ap (λ (x : Bool). (a && bit r) ⊕ x) (parity_tapped g n (r / 2) (omega arith))

-- ---- the output bits of a place
abbrev pub outputs_at : List (List Bool) → ℕ → List Bool
outputs_at code place = map (λ (g : List Bool). output_at (taps_of g) place) code

-- its register holds the input and the five before it
place_inputs : (s : ℕ) (b : Bool) → s < 32 → low_bits 6 (register_at (place_of s b)) ≡ b ∷ memory_low s
unfolding register_at place_in listed
place_inputs s b h = same_bits_eq _ _ (below_bit (λ b s. same_bits (low_bits 6 (register_at (place_of s b))) (b ∷ memory_low s)) 32 tt tt b s h)

pub place_outputs : (code : List (List Bool)) → AtMostSix code → (s : ℕ) (b : Bool) → s < 32 → outputs_at code (place_of s b) ≡ outputs code (b ∷ memory_low s)
unfolding output_at
place_outputs [] t s b h = refl
place_outputs (g ∷ code) t s b h =
    ap₂ (λ (x : Bool) (l : List Bool). x ∷ l)
    (parity_tapped g 6 (register_at (place_of s b)) t.0 ∙ ap (tapped g) (place_inputs s b h))
    (place_outputs code t.1 s b h)

-- ---- what `outputs` gives for a code whose generators are written as numbers
abbrev pub numbers : List (List Bool) → List ℕ
numbers code = map taps_of code

outputs_same : (code : List (List Bool)) (outputs : List (List ℕ)) (place : ℕ) → length outputs ≡ length code → place < 64
    → ((i : ℕ) → i < length code → OutputsTo (get_or (numbers code) i 0) (get_or outputs i []) 64)
    → map (λ (l : List ℕ). bit (get_or l place 0)) outputs ≡ outputs_at code place
outputs_same [] [] place e h p = refl
outputs_same [] (l ∷ outputs) place e h p = absurd (omega arith)
outputs_same (g ∷ code) [] place e h p = absurd (omega arith)
outputs_same (g ∷ code) (l ∷ outputs) place e h p =
    ap₂ (λ (x : Bool) (o : List Bool). x ∷ o) (ap bit (p 0 (omega arith) place h) ∙ bit_byte (output_at (taps_of g) place))
    (outputs_same code outputs place (omega arith) h (λ i b. p (suc i) (omega arith)))

module _ (code : List (List Bool)) (outputs : List (List ℕ)) (o : OutputsOf (numbers code) outputs) where
  pub distance_coded : (received : List ℕ) (place : ℕ) → place < 64 → distance_at outputs received place ≡ tally erased_differ (outputs_at code place) received
  unfolding distance_at
  distance_coded received place h =
      ap (λ (l : List Bool). tally erased_differ l received)
      (outputs_same code outputs place (o.size ∙ length-map code taps_of) h (λ i b. o.row i (omega (arith, length-map code taps_of))))

-- ---- rows by place
module _ {B : Type 0} (code : List (List Bool)) (f : Bool → B → ℕ) (received : List B) (rows : List (List ℕ)) (symbols : List ℕ) where
  -- the row of the step k holds what the outputs of each place cost against what was received of the step
  abbrev pub RowAt : ℕ → Type 0
  RowAt k = (place : ℕ) → place < 64 → get_or (get_or rows (get_or symbols k 0) []) place 0 ≡ tally f (outputs_at code place) (drop (k * length code) received)

  branches : AtMostSix code → (k s : ℕ) (b : Bool) → RowAt k → s < 32 → branch_by rows symbols k s b ≡ branch_of code memory_low f received k s b
  unfolding branch_by branch_of
  branches six k s b row h = row (place_of s b) (place_below s b h) ∙ ap (λ (o : List Bool). tally f o (drop (k * length code) received)) (place_outputs code six s b h)

  -- a word's metric is the sum over its coded bits
  pub metric_coded : AtMostSix code → (n : ℕ) → ((k : ℕ) → k < n → RowAt k) → (s : ℕ) (u : List Bool) → s < 32 → length u ≤ n
      → word_metric newest_low (branch_by rows symbols) s u ≡ tally f (coded code (memory_low s) (reverse u)) received
  metric_coded six n row s u h l =
      metric_same newest_low newest_low register_low_lem (λ s. s) (same_numbers newest_low) (branch_by rows symbols) (branch_of code memory_low f received) n (λ k s b hk. branches six k s b (row k hk)) s u h l
      ∙ distance newest_low register_low_lem code six f received s u h
