-- The rows give the code's costs by place, so that a word's metric is its weight. Assumes nothing.
use mathlib.Core.Path.{◌≡◌, sym, ap, ◌∙◌}
use mathlib.Core.Bool.{Bool}
use mathlib.Core.List.{List, [], ◌∷◌, reverse}
use Prim.Native.Nat.{ℕ, ◌+◌, ◌*◌, ◌<◌, ◌≤◌}
use native.Mathlib.Omega.{arith}
use lib.ListN.{length, get_or, drop}
use Rattle.bits.specs.Bits.{tally}
use Rattle.bits.proofs.Tally.{drop_two}
use Rattle.coding.specs.Codes.{coded, facch}
use Rattle.coding.specs.Laws.{facch_laws}
use Rattle.search.specs.Forward.{branch_by, Rows}
use Rattle.trellis.specs.Numbering.{newest_low}
use Rattle.search.specs.Row.{output_at, taps, DistancesTo, OutputsOf}
use Rattle.trellis.specs.Search.{Found}
use Rattle.trellis.specs.Words.{OfLength}
use Rattle.trellis.specs.declared.Outcome.{Outcome}
use Rattle.search.proofs.ByPlace.{RowAt, metric_coded, outputs_at, numbers, distance_coded}
use Rattle.trellis.proofs.PathWord.{last_five_lem}
use Rattle.trellis.proofs.Registers.{register_low_lem}
use Rattle.trellis.proofs.Searching.{found_to}
use Rattle.tailbiting.specs.Rows.{cost_at, RowOf, RowsTo, NumbersTo}
use Rattle.tailbiting.specs.Starts.{end_of, tail_metric}
use Rattle.tailbiting.specs.TailBiting.{tail_weight}
use Rattle.bits.specs.Observed.{erased_differ}
use Rattle.bits.proofs.Erased.{erased_le}
use Rattle.tailbiting.proofs.Tries.{end_below, leads_end}

-- ---- one place
cost_le : (place a b c d : ℕ) → cost_at place a b c d ≤ 4
cost_le place a b c d =
    omega (arith, erased_le (output_at (taps facch 0) place) a, erased_le (output_at (taps facch 1) place) b, erased_le (output_at (taps facch 2) place) c, erased_le (output_at (taps facch 3) place) d)

cost_tally : (place a b c d : ℕ) (r : List ℕ) → cost_at place a b c d ≡ tally erased_differ (outputs_at facch place) (a ∷ b ∷ c ∷ d ∷ r)
unfolding tally
cost_tally place a b c d r = omega arith

-- the distances of the code's outputs from four received bytes
pub row_of : (outputs : List (List ℕ)) (received : List ℕ) (k : ℕ) (row : List ℕ) → OutputsOf (numbers facch) outputs
    → DistancesTo outputs (get_or received (k * 4) 0 ∷ get_or received (k * 4 + 1) 0 ∷ get_or received (k * 4 + 2) 0 ∷ get_or received (k * 4 + 3) 0 ∷ []) row 64 → RowOf received k row
row_of outputs received k row o d place h = d place h ∙ distance_coded facch outputs o _ place h ∙ sym (cost_tally place _ _ _ _ [])

-- ---- the rows
module _ (received symbols : List ℕ) (rows : List (List ℕ)) (height : length rows ≡ 65) (size : length symbols ≡ 65) (all : length received ≡ 260)
    (filled : RowsTo received rows 65) (numbered : NumbersTo symbols 65) where
  -- what was received of a step
  step : (k : ℕ) → k < 65
      → drop (k * 4) received ≡ get_or received (k * 4) 0 ∷ get_or received (k * 4 + 1) 0 ∷ get_or received (k * 4 + 2) 0 ∷ get_or received (k * 4 + 3) 0 ∷ drop (k * 4 + 2 + 2) received
  step k h =
      let e : k * 4 + 2 + 1 ≡ k * 4 + 3 = omega arith in
      drop_two received (k * 4) 0 (omega arith)
      ∙ ap (λ (r : List ℕ). get_or received (k * 4) 0 ∷ get_or received (k * 4 + 1) 0 ∷ r)
      (drop_two received (k * 4 + 2) 0 (omega arith) ∙ ap (λ (i : ℕ). get_or received (k * 4 + 2) 0 ∷ get_or received i 0 ∷ drop (k * 4 + 2 + 2) received) e)

  row : (k : ℕ) → k < 65 → RowAt facch erased_differ received rows symbols k
  row k h place low =
      ap (λ (i : ℕ). get_or (get_or rows i []) place 0) (numbered k h)
      ∙ filled k h place low
      ∙ cost_tally place (get_or received (k * 4) 0) (get_or received (k * 4 + 1) 0) (get_or received (k * 4 + 2) 0) (get_or received (k * 4 + 3) 0) _
      ∙ ap (tally erased_differ (outputs_at facch place)) (sym (step k h))

  -- no branch metric is above four
  pub small_rows : Rows rows symbols
  small_rows =
      record {
        symbol = λ k h. omega (arith, numbered k (omega arith));
        small = λ i g hi hg. omega (
          arith,
          filled i (omega arith) g hg,
          cost_le g (get_or received (i * 4) 0) (get_or received (i * 4 + 1) 0) (get_or received (i * 4 + 2) 0) (get_or received (i * 4 + 3) 0),
        );
      }

  -- a word's metric from the state where it ends is its weight
  metric_weight : (u : List Bool) → length u ≡ 65 → tail_metric (branch_by rows symbols) u ≡ tail_weight received u
  unfolding tail_metric tail_weight
  metric_weight u l =
      let s : ℕ = end_of u in
      metric_coded facch erased_differ received rows symbols facch_laws.six 65 row s u (end_below u) (omega arith)
      ∙ ap (λ (m : List Bool). tally erased_differ (coded facch m (reverse u)) received)
      (sym (last_five_lem newest_low register_low_lem s u (end_below u) (omega arith) ∙ ap newest_low.memory (leads_end u l).ends))

  pub found_weight : (bits : List ℕ) (r : Outcome) → Found (OfLength 65) (tail_metric (branch_by rows symbols)) bits r → Found (OfLength 65) (tail_weight received) bits r
  found_weight bits r f = found_to (λ u h. h) (λ u h. h) metric_weight bits r f
