-- The rows and the symbols give the code's costs by place, so that a word's metric is its weight. Assumes nothing.
use mathlib.Core.Path.{◌≡◌, refl, sym, ap, ap₂, ◌∙◌}
use mathlib.Core.Bool.{Bool, false}
use mathlib.Core.List.{List, [], ◌∷◌}
use Prim.Native.Nat.{ℕ, ◌+◌, ◌*◌, ◌/◌, ◌%◌, ◌<◌, ◌≤◌}
use native.Mathlib.Omega.{arith}
use lib.ListN.{length, get_or, drop, length-map, get_or-map}
use Rattle.bits.specs.Bits.{bit, bits, disagreement, tally}
use Rattle.bits.specs.Observed.{erased_differ}
use Rattle.bits.proofs.Erased.{erased_seen}
use Rattle.bits.proofs.Binary.{differ_le, bit_low}
use Rattle.bits.proofs.Tally.{drop_two}
use Rattle.coding.specs.Codes.{dcch}
use Rattle.coding.specs.Laws.{dcch_laws}
use Rattle.coding.specs.Registers.{memory_low}
use Rattle.search.specs.Forward.{branch_by, Rows}
use Rattle.trellis.specs.Numbering.{newest_low}
use Rattle.search.specs.Row as place
use Rattle.search.specs.Row.{output_at, taps, OutputsOf}
use Rattle.trellis.specs.Words.{word_metric}
use Rattle.search.proofs.ByPlace.{RowAt, metric_coded, outputs_at, numbers, distance_coded}
use Rattle.viterbi.specs.Hard.{weight_from}
use Rattle.viterbi.specs.Rows.{distance_at, DistancesTo, PairsTo, pair_of, SymbolsTo}

-- ---- one place
pub distance_le : (place : ℕ) (first second : Bool) → distance_at place first second ≤ 2
distance_le place first second = omega (arith, differ_le (output_at (taps dcch 0) place) first, differ_le (output_at (taps dcch 1) place) second)

distance_tally : (place : ℕ) (first second : Bool) (r : List Bool) → distance_at place first second ≡ tally disagreement (outputs_at dcch place) (first ∷ second ∷ r)
unfolding tally
distance_tally place first second r = omega arith

-- a received bit is observed
erased_binary : (sent : Bool) (received : ℕ) → received < 2 → erased_differ sent received ≡ disagreement sent (bit received)
erased_binary sent received h = sym (erased_seen sent received _ (λ e. omega arith) refl)

-- the distances of the code's outputs from a pair
pub pair_distances : {outputs : List (List ℕ)} (row : List ℕ) {first second : ℕ} → OutputsOf (numbers dcch) outputs → first < 2 → second < 2
    → place.DistancesTo outputs (first ∷ second ∷ []) row 64 → DistancesTo (bit first) (bit second) row 64
unfolding tally
pair_distances {outputs} row {first} {second} o h g d place low =
    let one : Bool = output_at (taps dcch 0) place in
    let other : Bool = output_at (taps dcch 1) place in
    omega (
      arith,
      d place low,
      distance_coded dcch outputs o (first ∷ second ∷ []) place low,
      erased_binary one first h,
      erased_binary other second g,
    )

-- ---- the rows
module _ (coded symbols : List ℕ) (rows : List (List ℕ)) (n : ℕ) (four : length rows ≡ 4) (size : length symbols ≡ n) (twice : length coded ≡ n * 2)
    (pairs : PairsTo rows 4) (read : SymbolsTo coded symbols n) where
  -- a symbol's two bits
  symbol : (k : ℕ) → k < n → (get_or symbols k 0 < 4) × (bit (get_or symbols k 0 / 2) ≡ bit (get_or coded (k * 2) 0)) × (bit (get_or symbols k 0 % 2) ≡ bit (get_or coded (k * 2 + 1) 0))
  symbol k h =
      let e : get_or symbols k 0 ≡ pair_of coded k = read k h in
      let high : get_or symbols k 0 / 2 ≡ get_or coded (k * 2) 0 % 2 = omega arith in
      let low : get_or symbols k 0 % 2 ≡ get_or coded (k * 2 + 1) 0 % 2 = omega arith in
      (omega arith, ap bit high ∙ bit_low _, ap bit low ∙ bit_low _)

  -- what was received of a step
  received : (k : ℕ) → k < n → drop (k * 2) (bits coded) ≡ bit (get_or coded (k * 2) 0) ∷ bit (get_or coded (k * 2 + 1) 0) ∷ drop (k * 2 + 2) (bits coded)
  received k h =
      drop_two (bits coded) (k * 2) false (omega (arith, length-map coded bit))
      ∙ ap₂ (λ (x y : Bool). x ∷ y ∷ drop (k * 2 + 2) (bits coded)) (get_or-map bit coded (k * 2) 0) (get_or-map bit coded (k * 2 + 1) 0)

  row : (k : ℕ) → k < n → RowAt dcch disagreement (bits coded) rows symbols k
  row k h place low =
      pairs (get_or symbols k 0) (symbol k h).0 place low
      ∙ ap₂ (λ (p q : Bool). distance_at place p q) (symbol k h).1 (symbol k h).2
      ∙ distance_tally place (bit (get_or coded (k * 2) 0)) (bit (get_or coded (k * 2 + 1) 0)) (drop (k * 2 + 2) (bits coded))
      ∙ ap (tally disagreement (outputs_at dcch place)) (sym (received k h))

  pub metric_weight : (s : ℕ) (u : List Bool) → s < 32 → length u ≤ n → word_metric newest_low (branch_by rows symbols) s u ≡ weight_from (memory_low s) (bits coded) u
  unfolding weight_from
  metric_weight = metric_coded dcch disagreement (bits coded) rows symbols dcch_laws.six n row

  -- no branch metric is above two
  pub small_rows : Rows rows symbols
  small_rows =
      record {
        symbol = λ k h. omega (arith, (symbol k (omega arith)).0);
        small = λ i g hi hg. omega (arith, pairs i (omega arith) g hg, distance_le g (bit (i / 2)) (bit (i % 2)));
      }
