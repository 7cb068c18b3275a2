-- What the laws of an order give at a row and column. Assumes nothing.
use Rattle.std.proofs.Common.{◌≡◌, ℕ, ◌+◌, ◌*◌, ◌/◌, ◌%◌, ◌<◌, Bool, true, false, List, length, get_or, set, refl, sym, ap, ap₂, subst, ◌∙◌, arith}
use lib.Dec.{T}
use Rattle.bits.specs.Places.{listed, place_in}
use Rattle.bits.proofs.Listed.{length-listed, get_d_listed}
use Rattle.bits.proofs.Permuted.{permutes, element_below, place_of_element, element_of_place}
use Rattle.bits.proofs.Permuted as permuted
use mathlib.Core.Bool.{false≢true}
use Rattle.interleaving.specs.Orders.{OrderLaws, at_wire}
use Rattle.interleaving.specs.Parts.{wire_for}
use Rattle.interleaving.proofs.Parts.{CopiedColumns, columns_more}

-- the place that the bit of a row and column carries
at_row : (place_of : ℕ → ℕ → ℕ) {row column place : ℕ} → column < 10 → place ≡ place_of row column → at_wire place_of (row * 10 + column) ≡ place
at_row place_of {row} {column} b e =
    let r : (row * 10 + column) / 10 ≡ row = omega arith in
    let c : (row * 10 + column) % 10 ≡ column = omega arith in
    ap₂ place_of r c ∙ sym e

module _ {place_of : ℕ → ℕ → ℕ} {wire_of : ℕ → ℕ} (laws : OrderLaws place_of wire_of) where
  -- the place that a row and column carry, and its bit
  pub place_at_row : {row column place : ℕ} → row < 26 → column < 10 → place ≡ place_of row column → (place < 260) × (wire_of place ≡ row * 10 + column)
  place_at_row {row} {column} h b e =
      let at = at_row place_of b e in
      let w : row * 10 + column < 260 = omega arith in
      (subst (λ (p : ℕ). p < 260) at (laws.place_below (row * 10 + column) w), ap wire_of (sym at) ∙ laws.wire_of_place (row * 10 + column) w)

  -- a bit carries one place
  pub one_place : (p q : ℕ) → p < 260 → q < 260 → wire_of p ≡ wire_of q → p ≡ q
  one_place p q h b e = sym (laws.place_of_wire p h) ∙ ap (at_wire place_of) e ∙ laws.place_of_wire q b

  -- the bit of what is written
  pub wire_low : (carries : Bool) (p : ℕ) → p < 260 → wire_for carries wire_of p < 260
  wire_low true p h = h
  wire_low false p h = laws.wire_below p h

  -- ---- `copy_row`: a column more, where the frame is carried and where it is collected
  pub column_carried : (carries : Bool) → carries ≡ true → (from : List ℕ) {row column place : ℕ} {out₀ out : List ℕ} → row < 26 → column < 10 → place ≡ place_of row column
      → CopiedColumns carries place_of wire_of from row out₀ out column
      → CopiedColumns carries place_of wire_of from row out₀ (set out (row * 10 + column) (get_or from place 0)) (column + 1)
  column_carried true t from h b e s =
      columns_more s b (omega arith) refl (ap (λ (q : ℕ). get_or from q 0) (sym (at_row place_of b e))) (λ p l same. same)
  column_carried false t from h b e s = absurd (false≢true t)

  pub column_collected : (carries : Bool) → carries ≡ false → (from : List ℕ) {row column place : ℕ} {out₀ out : List ℕ} → row < 26 → column < 10 → place ≡ place_of row column
      → CopiedColumns carries place_of wire_of from row out₀ out column
      → CopiedColumns carries place_of wire_of from row out₀ (set out place (get_or from (row * 10 + column) 0)) (column + 1)
  column_collected false t from {place = place} h b e s =
      let at = place_at_row h b e in
      columns_more s b at.0 at.1 (ap (λ w. get_or from w 0) (sym at.1)) (λ p l. one_place p place l at.0)
  column_collected true t from h b e s = absurd (false≢true (sym t))

-- an order whose places, in the order of the slot, are a permutation: one test
pub permuted_laws : (place_of : ℕ → ℕ → ℕ) → T (permutes (listed 260 (at_wire place_of)) 260) → OrderLaws place_of (place_in (listed 260 (at_wire place_of)))
permuted_laws place_of passed =
    record {
      place_below = λ wire h. subst (λ (x : ℕ). x < 260) (at wire h) (element_below order 260 size passed wire h);
      wire_below = permuted.place_below order 260 size passed;
      wire_of_place = λ wire h. ap (place_in order) (sym (at wire h)) ∙ place_of_element order 260 size passed wire h;
      place_of_wire = λ place h. sym (at (place_in order place) (permuted.place_below order 260 size passed place h)) ∙ element_of_place order 260 size passed place h;
    }
  where
    order : List ℕ
    order = listed 260 (at_wire place_of)

    size : length order ≡ 260
    size = length-listed 260 (at_wire place_of)

    at : (wire : ℕ) → wire < 260 → get_or order wire 0 ≡ at_wire place_of wire
    at wire h = get_d_listed 260 (at_wire place_of) 0 wire h
