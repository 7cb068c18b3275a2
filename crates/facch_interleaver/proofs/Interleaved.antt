-- Slots and words by their elements; interleaving and its inverse commute with a function of the elements, so bits stay bits. Assumes nothing.
use mathlib.Core.Path.{◌≡◌, sym, ap, ap₂, ◌∙◌}
use mathlib.Core.Bool.{Bool, true, false, cond}
use mathlib.Core.List.{List, map}
use Prim.Native.Nat.{ℕ, ◌/◌, ◌%◌, ◌<◌}
use lib.Dec.{eqb}
use lib.ListN.{length, get_or, get_or-map}
use Rattle.bits.specs.Bits.{byte, bits, all_binary}
use Rattle.bits.proofs.Binary.{binary_bytes, bytes_bits}
use Rattle.bits.proofs.Listed.{length-listed, get_d_listed, map-listed, listed_same}
use Rattle.interleaving.specs.Slots.{carried, collected, by_row}
use Rattle.facch_interleaver.specs.Wire.{place_at, wire_of, interleaved, deinterleaved}

module _ {A : Type 0} (d : A) where
  pub interleaved-length : (previous current : List A) → length (interleaved d previous current) ≡ 260
  unfolding interleaved carried
  interleaved-length previous current = length-listed 260 _

  pub deinterleaved-length : (first second : List A) → length (deinterleaved d first second) ≡ 260
  unfolding deinterleaved collected
  deinterleaved-length first second = length-listed 260 _

  pub interleaved_at : (previous current : List A) (wire : ℕ) → wire < 260
      → get_or (interleaved d previous current) wire d ≡ get_or (by_row previous current (wire / 10)) (place_at wire) d
  unfolding interleaved carried
  interleaved_at previous current wire h = get_d_listed 260 _ d wire h

  pub deinterleaved_at : (first second : List A) (place : ℕ) → place < 260
      → get_or (deinterleaved d first second) place d ≡ get_or (by_row second first (wire_of place / 10)) (wire_of place) d
  unfolding deinterleaved collected
  deinterleaved_at first second place h = get_d_listed 260 _ d place h

  -- ---- a function of the elements
  module _ {B : Type 0} (g : A → B) where
    map_by_row : (wire : ℕ) (even odd : List A) (k : ℕ) → g (get_or (by_row even odd (wire / 10)) k d) ≡ get_or (by_row (map g even) (map g odd) (wire / 10)) k (g d)
    map_by_row wire even odd k = go (eqb (wire / 10 % 2) 0)
      where
        go : (b : Bool) → g (get_or (cond b even odd) k d) ≡ get_or (cond b (map g even) (map g odd)) k (g d)
        go true = sym (get_or-map g even k d)
        go false = sym (get_or-map g odd k d)

    pub map-interleaved : (previous current : List A) → map g (interleaved d previous current) ≡ interleaved (g d) (map g previous) (map g current)
    unfolding interleaved carried
    map-interleaved previous current =
        map-listed g 260 _ ∙ listed_same 260 _ _ (λ wire. map_by_row wire previous current (place_at wire))

-- ---- bits and bytes
pub binary_interleaved : (previous current : List ℕ) → all_binary previous ≡ true → all_binary current ≡ true → all_binary (interleaved 0 previous current) ≡ true
binary_interleaved previous current e f =
    ap₂ (λ (p c : List ℕ). all_binary (interleaved 0 p c)) (sym (bytes_bits previous e)) (sym (bytes_bits current f))
    ∙ ap all_binary (sym (map-interleaved false byte (bits previous) (bits current))) ∙ binary_bytes (interleaved false (bits previous) (bits current))
