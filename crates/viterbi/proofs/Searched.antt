-- The two searches: what they are given of the code, and what they find. Assumes nothing.
use mathlib.Core.Path.{◌≡◌, refl, subst, ◌∙◌}
use mathlib.Core.List.{List}
use Prim.Native.Nat.{ℕ, ◌*◌, ◌/◌, ◌≤◌}
use native.Mathlib.Omega.{arith}
use lib.ListN.{length, take}
use lib.Seq.{length-take-le}
use Rattle.std.proofs.lemmas.List.{get_or-take}
use Rattle.bits.specs.Bits.{bits}
use Rattle.trellis.specs.Search.{Found, FoundFirst}
use Rattle.trellis.specs.Numbering.{newest_low}
use Rattle.trellis.specs.Words.{Leads, OfLength, Terminated, word_metric, free_metric}
use Rattle.search.specs.Forward.{branch_by}
use Rattle.trellis.specs.declared.Outcome.{Outcome}
use Rattle.trellis.proofs.Registers.{register_low_lem}
use Rattle.trellis.proofs.PathWord.{leads_terminated, terminated_leads}
use Rattle.trellis.proofs.Searching.{found_to, found_first_to}
use Rattle.viterbi.specs.Hard.{weight, free_weight}
use Rattle.viterbi.specs.Rows.{PairsTo, SymbolsTo}
use Rattle.viterbi.proofs.Branches.{metric_weight}
use Rattle.viterbi.proofs.Weights.{free_weight_lem}

-- the symbols of n steps stand before the rest of an array
module _ (coded : List ℕ) (rows : List (List ℕ)) (pairs : (length rows ≡ 4) × PairsTo rows 4) (all : List ℕ)
    (read : (length all ≡ 130) × SymbolsTo coded all (length coded / 2)) (n : ℕ) (short : n ≤ 130) (twice : length coded ≡ n * 2) where
  abbrev symbols : List ℕ
  symbols = take n all

  pub size : length symbols ≡ n
  size = length-take-le n all (omega arith)

  steps : SymbolsTo coded symbols n
  steps k h = get_or-take n all k 0 h ∙ read.1 k (omega arith)

  pub found_terminated : 5 ≤ n → (word : List ℕ) (r : Outcome)
      → FoundFirst (Leads newest_low 0 0 (length symbols)) (word_metric newest_low (branch_by rows symbols) 0) word r → FoundFirst (Terminated n) (weight (bits coded)) word r
  found_terminated h5 word r f =
      found_first_to (leads_terminated newest_low register_low_lem refl n h5) (terminated_leads newest_low register_low_lem refl n h5)
      (λ u h. metric_weight coded symbols rows n pairs.0 size twice pairs.1 steps 0 u (omega arith) (omega (arith, h.steps)))
      word r
      (subst (λ (m : ℕ). FoundFirst (Leads newest_low 0 0 m) (word_metric newest_low (branch_by rows symbols) 0) word r) size f)

  pub found_free : (word : List ℕ) (r : Outcome) → Found (OfLength (length symbols)) (free_metric newest_low (branch_by rows symbols)) word r
      → Found (OfLength n) (free_weight (bits coded)) word r
  found_free word r f =
      found_to (λ u h. h) (λ u h. h)
      (λ u h. free_weight_lem (branch_by rows symbols) (bits coded) n (metric_weight coded symbols rows n pairs.0 size twice pairs.1 steps) u (omega arith))
      word r
      (subst (λ (m : ℕ). Found (OfLength m) (free_metric newest_low (branch_by rows symbols)) word r) size f)
