-- Interleaving and deinterleaving undo each other, over elements of any type, and commute with a function of the elements. Assumes nothing.
use mathlib.Core.Path.{◌≡◌, sym, ◌∙◌}
use mathlib.Core.Bool.{Bool, false}
use mathlib.Core.List.{List, map}
use Prim.Native.Nat.{ℕ, ◌<◌}
use lib.ListN.{length, get_or, length-map, get_or-map}
use Rattle.bits.specs.Bits.{bit, byte, bits, bytes}
use Rattle.dcch_interleaver.specs.declared.BlockFormat.{BlockFormat}
use Rattle.dcch_interleaver.specs.Formats.{encoded_bits}
use Rattle.dcch_interleaver.specs.Wire.{wire_order, cell_at, wire_of, interleaved, deinterleaved}
use Rattle.dcch_interleaver.proofs.Wiring.{order_length, cell_below, wire_below, wire_of_cell, cell_of_wire}
use Rattle.bits.proofs.Listed.{length-listed, get_d_listed, is_listed, map-taken, taken_back}

module _ {A : Type 0} (f : BlockFormat) (d : A) (l : List A) where
  pub interleaved-length : length (interleaved f d l) ≡ encoded_bits f
  unfolding interleaved
  interleaved-length = length-listed (encoded_bits f) _

  pub deinterleaved-length : length (deinterleaved f d l) ≡ encoded_bits f
  unfolding deinterleaved
  deinterleaved-length = length-listed (encoded_bits f) _

  pub deinterleaved_at : (cell : ℕ) → cell < encoded_bits f → get_or (deinterleaved f d l) cell d ≡ get_or l (wire_of f cell) d
  unfolding deinterleaved
  deinterleaved_at cell h = get_d_listed (encoded_bits f) _ d cell h

  -- the cells in wire order
  pub interleaved_order : interleaved f d l ≡ map (λ (cell : ℕ). get_or l cell d) (wire_order f)
  unfolding interleaved cell_at
  interleaved_order =
      sym
      (is_listed (encoded_bits f) _ (get_or l 0 d) (map (λ (cell : ℕ). get_or l cell d) (wire_order f))
      (length-map (wire_order f) (λ (cell : ℕ). get_or l cell d) ∙ order_length f)
      (λ wire h. get_or-map (λ (cell : ℕ). get_or l cell d) (wire_order f) wire 0))

  -- ---- each undoes the other
  pub deinterleaved-interleaved : length l ≡ encoded_bits f → deinterleaved f d (interleaved f d l) ≡ l
  unfolding interleaved deinterleaved
  deinterleaved-interleaved = taken_back (encoded_bits f) (cell_at f) d (wire_of f) (wire_below f) (cell_of_wire f) l

  pub interleaved-deinterleaved : length l ≡ encoded_bits f → interleaved f d (deinterleaved f d l) ≡ l
  unfolding interleaved deinterleaved
  interleaved-deinterleaved = taken_back (encoded_bits f) (wire_of f) d (cell_at f) (cell_below f) (wire_of_cell f) l

  -- ---- a function of the elements
  pub map-interleaved : {B : Type 0} (g : A → B) → map g (interleaved f d l) ≡ interleaved f (g d) (map g l)
  unfolding interleaved
  map-interleaved g = map-taken (encoded_bits f) (cell_at f) d g l

  pub map-deinterleaved : {B : Type 0} (g : A → B) → map g (deinterleaved f d l) ≡ deinterleaved f (g d) (map g l)
  unfolding deinterleaved
  map-deinterleaved g = map-taken (encoded_bits f) (wire_of f) d g l

-- ---- bits and bytes
pub bytes-interleaved : (f : BlockFormat) (w : List Bool) → bytes (interleaved f false w) ≡ interleaved f 0 (bytes w)
bytes-interleaved f w = map-interleaved f false w byte

pub bits-deinterleaved : (f : BlockFormat) (l : List ℕ) → bits (deinterleaved f 0 l) ≡ deinterleaved f false (bits l)
bits-deinterleaved f l = map-deinterleaved f 0 l bit
