-- The loop that writes the bits of eleven rows, one row after the other. Assumes nothing.
use mathlib.Core.Path.{◌≡◌, refl, sym, ap, ap₂, ◌∙◌}
use mathlib.Core.Bool.{Bool}
use mathlib.Core.List.{List, [], ◌∷◌, ◌++◌, append_assoc, append-nil}
use Prim.Native.Nat.{ℕ, ◌+◌, ◌-◌, ◌*◌, ◌%◌, ◌≤◌, ◌<◌}
use native.Mathlib.Omega.{arith}
use native.Mathlib.Numerals.{add-one}
use lib.ListN.{length, get_or, take, drop, length-append, length-map, length-drop}
use lib.Seq.{length-take-le, take_all, take_at, take-suc}
use borrow.Rule.Slice.PartMut.{put_mid}
use Rattle.bits.specs.Bits.{byte, bytes}
use Rattle.bits.specs.Numbers.{unpacked}
use Rattle.bits.proofs.Binary.{bytes-append}
use Rattle.bits.proofs.Listed.{length-listed, get_d_listed}
use Rattle.bits.proofs.Packed.{unpacked-length}
use Rattle.sacch_receiver.specs.Stored.{row_bits, window_of}

-- ---- the bits of rows
row_bits_snoc : (rows : List ℕ) (row : ℕ) → row_bits (rows ++ (row ∷ [])) ≡ row_bits rows ++ unpacked 12 row
unfolding row_bits
row_bits_snoc [] row = append-nil (unpacked 12 row)
row_bits_snoc (first ∷ rows) row =
    ap (λ (w : List Bool). unpacked 12 first ++ w) (row_bits_snoc rows row) ∙ sym (append_assoc (unpacked 12 first) (row_bits rows) (unpacked 12 row))

pub row_bits-length : (rows : List ℕ) → length (row_bits rows) ≡ length rows * 12
unfolding row_bits
row_bits-length [] = refl
row_bits-length (row ∷ rows) =
    length-append (unpacked 12 row) (row_bits rows) ∙ ap₂ (λ (m n : ℕ). m + n) (unpacked-length 12 row) (row_bits-length rows) ∙ omega arith

pub window_length : (rows : List ℕ) (next : ℕ) → length (window_of rows next) ≡ 11
unfolding window_of
window_length rows next = length-listed 11 (λ (i : ℕ). get_or rows ((next + i) % 11) 0)

-- the rows before row i + 1
window_more : (rows : List ℕ) (next i : ℕ) → i < 11 → take (i + 1) (window_of rows next) ≡ take i (window_of rows next) ++ (get_or rows ((next + i) % 11) 0 ∷ [])
unfolding window_of
window_more rows next i h =
    ap (λ (n : ℕ). take n (window_of rows next)) (add-one i) ∙ take-suc (window_of rows next) i 0 (omega (arith, window_length rows next))
    ∙ ap (λ (x : ℕ). take i (window_of rows next) ++ (x ∷ [])) (get_d_listed 11 (λ (j : ℕ). get_or rows ((next + j) % 11) 0) 0 i h)

-- ---- the loop: the rows before row i are written
pub record Unrolling (rows : List ℕ) (next : ℕ) (coded : List ℕ) (i : ℕ) : Type 0 where
  pub low : i ≤ 11
  pub size : length coded ≡ 132
  pub written : take (i * 12) coded ≡ bytes (row_bits (take i (window_of rows next)))

pub unrolling_none : {rows : List ℕ} {next : ℕ} {coded : List ℕ} → length coded ≡ 132 → Unrolling rows next coded 0
unfolding row_bits
unrolling_none e = record { low = omega arith; size = e; written = refl }

module _ {rows : List ℕ} {next : ℕ} {coded : List ℕ} {i : ℕ} (u : Unrolling rows next coded i) where
  abbrev row : ℕ
  row = get_or rows ((next + i) % 11) 0

  -- from the place `i * 12` on
  abbrev room : List ℕ
  room = drop (i * 12) coded

  -- row i is written into its twelve places
  module _ (h : i < 11) {part : List ℕ} (unpacked-row : part ≡ bytes (unpacked (length (take (i * 12 + 12 - i * 12) room)) row)) where
    abbrev k : ℕ
    k = i * 12 + 12 - i * 12

    room_length : 12 ≤ length room
    room_length = omega (arith, length-drop (i * 12) coded, u.size)

    part_is : part ≡ bytes (unpacked 12 row)
    part_is = unpacked-row ∙ ap (λ (n : ℕ). bytes (unpacked n row)) (length-take-le k room (omega (arith, room_length)) ∙ omega arith)

    front_length : length (take (i * 12) coded ++ part) ≡ (i + 1) * 12
    front_length =
        length-append (take (i * 12) coded) part
        ∙ omega (arith, length-take-le (i * 12) coded (omega (arith, u.size)), ap length part_is ∙ length-map (unpacked 12 row) byte ∙ unpacked-length 12 row)

    whole : put_mid (i * 12) k coded part ≡ (take (i * 12) coded ++ part) ++ drop k room
    whole = sym (append_assoc (take (i * 12) coded) part (drop k room))

    pub unrolling_more : Unrolling rows next (put_mid (i * 12) (i * 12 + 12 - i * 12) coded part) (i + 1)
    unrolling_more =
        record {
          low = omega arith;
          size =
              ap length whole ∙ length-append (take (i * 12) coded ++ part) (drop k room)
              ∙ omega (arith, front_length, length-drop k room, length-drop (i * 12) coded, u.size);
          written =
              ap (take ((i + 1) * 12)) whole ∙ take_at (take (i * 12) coded ++ part) (drop k room) ((i + 1) * 12) front_length
              ∙ ap₂ (λ (a b : List ℕ). a ++ b) u.written part_is ∙ sym (bytes-append (row_bits (take i (window_of rows next))) (unpacked 12 row))
              ∙ ap bytes (sym (row_bits_snoc (take i (window_of rows next)) row) ∙ ap row_bits (sym (window_more rows next i h)));
        }

  pub unrolling_done : 11 ≤ i → coded ≡ bytes (row_bits (window_of rows next))
  unrolling_done h =
      sym (take_all (i * 12) coded (omega (arith, u.size))) ∙ u.written
      ∙ ap (λ (l : List ℕ). bytes (row_bits l)) (take_all i (window_of rows next) (omega (arith, window_length rows next)))
