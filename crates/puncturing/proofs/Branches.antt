-- The rows and the symbols give the code's costs by place, so that a word's metric is its weight. Assumes nothing.
use mathlib.Core.Path.{◌≡◌, refl, sym, ap, ap₂, subst, ◌∙◌}
use mathlib.Core.Bool.{Bool, true, false, cond}
use mathlib.Core.List.{List, [], ◌∷◌, ◌++◌}
use Prim.Native.Nat.{ℕ, ◌+◌, ◌-◌, ◌*◌, ◌/◌, ◌%◌, ◌<◌, ◌≤◌}
use native.Mathlib.Omega.{arith}
use native.Mathlib.Decide.{ℕ_discrete}
use lib.Seq.{get_or-append_seam}
use lib.ListN.{get_or-append, length, get_or, drop, replicate, get_or-replicate, length-append, length-map, get_or-map}
use borrow.Author.Tests.{eqb-false}
use Rattle.bits.specs.Bits.{bit, bits, disagreements, tally}
use Rattle.bits.proofs.Binary.{bit_low}
use Rattle.coding.specs.Codes.{acelp}
use Rattle.coding.specs.Laws.{acelp_laws}
use Rattle.viterbi.proofs.Branches.{distance_le}
use Rattle.search.specs.Forward.{Rows, branch_by}
use Rattle.trellis.specs.Numbering.{newest_low}
use Rattle.trellis.specs.Search.{FoundFirst}
use Rattle.trellis.specs.Words.{Leads, Terminated, word_metric}
use Rattle.trellis.specs.declared.Outcome.{Outcome}
use Rattle.trellis.proofs.PathWord.{leads_terminated, terminated_leads}
use Rattle.trellis.proofs.Registers.{register_low_lem}
use Rattle.trellis.proofs.Searching.{found_first_to}
use Rattle.search.proofs.ByPlace.{RowAt, metric_coded, outputs_at}
use Rattle.viterbi.specs.Rows.{PairsTo, distance_at, pair_of}
use Rattle.puncturing.specs.Punctured.{weight}
use Rattle.puncturing.specs.Rows.{StepRows, SymbolsTo}
use Rattle.puncturing.proofs.Gaps.{Observation, observed, unobserved, cost, sent_mask, sent_kept, spread, tally_spread}
use Rattle.puncturing.proofs.MaskSteps.{silent, pair_at, mask_rank}
use Rattle.puncturing.proofs.Received.{observed_at, received}

-- ---- the rows: four copied, and zeros
pub step_rows : {pairs : List (List ℕ)} {copied : List (List ℕ)} → (length pairs ≡ 4) × PairsTo pairs 4 → copied ≡ pairs → StepRows (copied ++ (replicate 64 0 ∷ []))
step_rows {pairs} {copied} p e =
    let zeros : List ℕ = replicate 64 0 in
    let four : length copied ≡ 4 = ap length e ∙ p.0 in
    let last : get_or (copied ++ (zeros ∷ [])) 4 [] ≡ zeros = ap (λ (i : ℕ). get_or (copied ++ (zeros ∷ [])) i []) (sym four) ∙ get_or-append_seam copied zeros [] [] in
    record {
      five = length-append copied (replicate 64 0 ∷ []) ∙ ap (λ (n : ℕ). n + 1) four;
      pairs = λ i low place h. ap (λ (row : List ℕ). get_or row place 0) (get_or-append copied _ [] i (omega arith) ∙ ap (λ (rows : List (List ℕ)). get_or rows i []) e) ∙ p.1 i low place h;
      free = λ place low. ap (λ (row : List ℕ). get_or row place 0) last ∙ get_or-replicate 64 place 0 0 low;
    }

-- ---- a place of a row
sent_tally : (place : ℕ) (first second : Bool) (r : List Observation)
    → distance_at place first second ≡ tally cost (outputs_at acelp place) (observed first ∷ observed second ∷ r)
unfolding tally
sent_tally place first second r = omega arith

silent_tally : (place : ℕ) (r : List Observation) → 0 ≡ tally cost (outputs_at acelp place) (unobserved ∷ unobserved ∷ r)
unfolding tally
silent_tally place r = refl

module _ (coded symbols : List ℕ) (rows : List (List ℕ)) (enough : length coded ≡ 208) (size : length symbols ≡ 108) (passed : StepRows rows) (read : SymbolsTo coded symbols 108) where
  -- the pair that a step receives
  pair : (k : ℕ) → k < 108 → silent k ≡ false
      → (get_or symbols k 0 < 4) × (bit (get_or symbols k 0 / 2) ≡ get_or (bits coded) (pair_at k) false)
      × (bit (get_or symbols k 0 % 2) ≡ get_or (bits coded) (pair_at k + 1) false)
  pair k h sends =
      let ne : k % 27 ≡ 26 → ⊥ = eqb-false (k % 27) 26 sends in
      let e : get_or symbols k 0 ≡ pair_of coded (k - k / 27) = read k h ∙ ap (λ (t : Bool). cond t 4 (pair_of coded (k - k / 27))) sends in
      let x : get_or symbols k 0 / 2 ≡ get_or coded (pair_at k) 0 % 2 = omega arith in
      let y : get_or symbols k 0 % 2 ≡ get_or coded (pair_at k + 1) 0 % 2 = omega arith in
      (omega arith, ap bit x ∙ bit_low _ ∙ sym (get_or-map bit coded (pair_at k) 0), ap bit y ∙ bit_low _ ∙ sym (get_or-map bit coded (pair_at k + 1) 0))

  none : (k : ℕ) → k < 108 → silent k ≡ true → get_or symbols k 0 ≡ 4
  none k h quiet = read k h ∙ ap (λ (t : Bool). cond t 4 (pair_of coded (k - k / 27))) quiet

  row : (k : ℕ) → k < 108 → RowAt acelp cost (spread sent_mask (bits coded)) rows symbols k
  row k h place low = by (silent k) refl ∙ ap (tally cost (outputs_at acelp place)) (sym (received (bits coded) k h))
    where
      rest : List Observation
      rest = drop (k * 2 + 2) (spread sent_mask (bits coded))

      by : (s : Bool) → silent k ≡ s → get_or (get_or rows (get_or symbols k 0) []) place 0
          ≡ tally cost (outputs_at acelp place) (observed_at (bits coded) (silent k) (pair_at k) ∷ observed_at (bits coded) (silent k) (pair_at k + 1) ∷ rest)
      by true e =
          ap (λ (i : ℕ). get_or (get_or rows i []) place 0) (none k h e) ∙ passed.free place low ∙ silent_tally place rest
          ∙ ap (λ (s : Bool). tally cost (outputs_at acelp place) (observed_at (bits coded) s (pair_at k) ∷ observed_at (bits coded) s (pair_at k + 1) ∷ rest)) (sym e)
      by false e =
          passed.pairs (get_or symbols k 0) (pair k h e).0 place low
          ∙ ap₂ (λ (p q : Bool). distance_at place p q) (pair k h e).1 (pair k h e).2
          ∙ sent_tally place (get_or (bits coded) (pair_at k) false) (get_or (bits coded) (pair_at k + 1) false) rest
          ∙ ap (λ (s : Bool). tally cost (outputs_at acelp place) (observed_at (bits coded) s (pair_at k) ∷ observed_at (bits coded) s (pair_at k + 1) ∷ rest)) (sym e)

  pub metric_weight : (u : List Bool) → length u ≤ 108 → word_metric newest_low (branch_by rows symbols) 0 u ≡ weight (bits coded) u
  unfolding weight
  metric_weight u h =
      metric_coded acelp cost (spread sent_mask (bits coded)) rows symbols acelp_laws.six 108 row 0 u (omega arith) h
      ∙ tally_spread sent_mask _ (bits coded) (omega (arith, mask_rank, length-map coded bit))
      ∙ ap (λ (l : List Bool). disagreements l (bits coded)) (sym (sent_kept _))

  -- no branch metric is above two
  pub small_rows : Rows rows symbols
  small_rows =
      record {
        symbol = λ k h. by k (omega arith) (silent k) refl;
        small = λ i g hi hg. elim (ℕ_discrete i 4) [
          | yes e ↦ omega (arith, ap (λ (j : ℕ). get_or (get_or rows j []) g 0) e, passed.free g hg)
          | no n ↦ omega (arith, passed.pairs i (omega (arith, passed.five)) g hg, distance_le g (bit (i / 2)) (bit (i % 2)))
        ];
      }
    where
      by : (k : ℕ) → k < 108 → (s : Bool) → silent k ≡ s → get_or symbols k 0 < length rows
      by k h true e = omega (arith, none k h e, passed.five)
      by k h false e = omega (arith, (pair k h e).0, passed.five)

  -- the engine searches the words of the code
  pub found : (word : List ℕ) (r : Outcome)
      → FoundFirst (Leads newest_low 0 0 (length symbols)) (word_metric newest_low (branch_by rows symbols) 0) word r
      → FoundFirst (Terminated 108) (weight (bits coded)) word r
  found word r f =
      found_first_to (leads_terminated newest_low register_low_lem refl 108 (omega arith)) (terminated_leads newest_low register_low_lem refl 108 (omega arith))
      (λ u h. metric_weight u (omega (arith, h.steps))) word r
      (subst (λ (n : ℕ). FoundFirst (Leads newest_low 0 0 n) (word_metric newest_low (branch_by rows symbols) 0) word r) size f)
