-- The rules of `place` agree with the table, column by column: tests that antt computes. Assumes nothing.
use mathlib.Core.Path.{◌≡◌, sym, ap, subst, ◌∙◌}
use mathlib.Core.List.{List, [], ◌∷◌}
use Prim.Native.Nat.{ℕ, ◌+◌, ◌-◌, ◌*◌, ◌<◌, ◌≤◌}
use native.Mathlib.Omega.{arith}
use lib.Dec.{T, eqb, eqb→eq}
use lib.ListN.{get_or}
use Rattle.bits.proofs.Tested.{every, below}
use Rattle.facch_interleaver.specs.Wire.{table, place_of}

-- two rules that a test finds equal at n numbers from a first one on
along : (f g : ℕ → ℕ) (from n : ℕ) → T (every (λ k. eqb (f (k + from)) (g (k + from))) n) → (k : ℕ) → from ≤ k → k < n + from → f k ≡ g k
along f g from n t k h b =
    let e : k - from + from ≡ k = omega arith in
    ap f (sym e) ∙ eqb→eq (f (k - from + from)) (g (k - from + from)) (below (λ j. eqb (f (j + from)) (g (j + from))) n t (k - from) (omega arith)) ∙ ap g e

-- the tables of the code
abbrev first_row : List ℕ
first_row = 215 ∷ 256 ∷ 223 ∷ 258 ∷ 230 ∷ 219 ∷ 257 ∷ 227 ∷ 259 ∷ 189 ∷ []

abbrev column_three_end : List ℕ
column_three_end = 216 ∷ 217 ∷ 218 ∷ 220 ∷ 221 ∷ 222 ∷ 224 ∷ 225 ∷ 226 ∷ 228 ∷ 229 ∷ []

abbrev late_column_bases : List ℕ
late_column_bases = 230 ∷ 88 ∷ 113 ∷ 138 ∷ 163 ∷ 189 ∷ []

pub first_row_lem : (column : ℕ) → column < 10 → get_or first_row column 0 ≡ place_of 0 column
unfolding table place_of
first_row_lem column h = along (λ k. get_or first_row k 0) (place_of 0) 0 10 tt column (omega arith) (omega arith)

-- ---- the rows from 1 on
module _ (row : ℕ) (positive : 0 < row) (low : row < 26) where
  pub early_column : (column : ℕ) → column < 3 → row - 1 + column * 25 ≡ place_of row column
  unfolding table place_of
  early_column column h =
      along (λ r. r - 1 + column * 25) (λ r. place_of r column) 1 25
      (below (λ c. every (λ k. eqb (k + 1 - 1 + c * 25) (place_of (k + 1) c)) 25) 3 tt column h) row positive (omega arith)

  pub column_three_start : row < 15 → row + 74 ≡ place_of row 3
  unfolding table place_of
  column_three_start h = along (λ r. r + 74) (λ r. place_of r 3) 1 14 tt row positive (omega arith)

  pub column_three_end_lem : 15 ≤ row → get_or column_three_end (row - 15) 0 ≡ place_of row 3
  unfolding table place_of
  column_three_end_lem h = along (λ r. get_or column_three_end (r - 15) 0) (λ r. place_of r 3) 15 11 tt row h (omega arith)

  -- the columns from four on count from a base
  pub late_column : (column : ℕ) → 4 ≤ column → column < 10 → row + get_or late_column_bases (column - 4) 0 ≡ place_of row column
  unfolding table place_of
  late_column column h b =
      along (λ r. r + get_or late_column_bases (column - 4) 0) (λ r. place_of r column) 1 25
      (subst (λ (c : ℕ). T (every (λ k. eqb (k + 1 + get_or late_column_bases (column - 4) 0) (place_of (k + 1) c)) 25)) (let e : column - 4 + 4 ≡ column = omega arith in e)
      (below (λ c. every (λ k. eqb (k + 1 + get_or late_column_bases c 0) (place_of (k + 1) (c + 4))) 25) 6 tt (column - 4) (omega arith))) row positive (omega arith)
