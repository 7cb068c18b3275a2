-- A message and its checksum, written after a header. Assumes nothing.
use mathlib.Core.Path.{◌≡◌, sym, ap, ap₂, ◌∙◌}
use mathlib.Core.Bool.{Bool, true}
use mathlib.Core.List.{List, [], ◌++◌, append_assoc, append-nil}
use Prim.Native.Nat.{ℕ, ◌+◌, ◌-◌}
use native.Mathlib.Omega.{arith}
use lib.ListN.{length, take, drop, length-append, length-map, length-drop, drop_of_length-le}
use lib.Seq.{take_at, drop_at, length-take-le}
use borrow.Rule.Slice.PartMut.{put_mid}
use Rattle.bits.specs.Bits.{bit, byte, bits, bytes, all_binary}
use Rattle.bits.specs.Numbers.{unpacked}
use Rattle.bits.proofs.Binary.{bits-bytes, bytes_bits, bytes-append}
use Rattle.bits.proofs.Packed.{unpacked-length}
use Rattle.checksums.specs.Checksums.{checksum_of}
use Rattle.words.specs.Words.{information_of, made_of}

-- the message in the places from h to h + 47
module _ (word : List ℕ) (h message : ℕ) (size : length word ≡ h + 64) (binary : all_binary (take h word) ≡ true)
    (part : List ℕ) (written : part ≡ bytes (unpacked (length (take (h + 48 - h) (drop h word))) message)) where
  abbrev n : ℕ
  n = h + 48 - h

  abbrev header : List Bool
  header = bits (take h word)

  abbrev information : List Bool
  information = information_of header message

  abbrev rest : List ℕ
  rest = drop n (drop h word)

  written_is : take h word ++ part ≡ bytes information
  written_is =
      ap₂ (λ (a b : List ℕ). a ++ b) (sym (bytes_bits (take h word) binary))
      (written ∙ ap (λ (k : ℕ). bytes (unpacked k message)) (length-take-le n (drop h word) (omega (arith, length-drop h word)) ∙ omega arith))
      ∙ sym (bytes-append header (unpacked 48 message))

  information_length : length (bytes information) ≡ h + 48
  information_length =
      length-map information byte ∙ length-append header (unpacked 48 message)
      ∙ ap₂ (λ (a b : ℕ). a + b) (length-map (take h word) bit ∙ length-take-le h word (omega arith)) (unpacked-length 48 message)

  informed : put_mid h n word part ≡ bytes information ++ rest
  informed = sym (append_assoc (take h word) part rest) ∙ ap (λ (l : List ℕ). l ++ rest) written_is

  front : take (h + 48) (put_mid h n word part) ≡ bytes information
  front = ap (take (h + 48)) informed ∙ take_at (bytes information) rest (h + 48) information_length

  back : length (drop (h + 48) (put_mid h n word part)) ≡ 16
  back =
      ap (λ (l : List ℕ). length (drop (h + 48) l)) informed ∙ ap length (drop_at (bytes information) rest (h + 48) information_length)
      ∙ omega (arith, length-drop n (drop h word), length-drop h word)

  pub front_length : h + 48 ≡ length (take (h + 48) (put_mid h n word part))
  front_length = sym (ap length front ∙ information_length)

  -- and the checksum after it
  abbrev m : ℕ
  m = h + 48 + 16 - (h + 48)

  pub completed : (dvcc : ℕ) {checksum : ℕ} {last : List ℕ}
      → checksum ≡ checksum_of (bits (take (h + 48) (put_mid h n word part))) dvcc
      → last ≡ bytes (unpacked (length (take m (drop (h + 48) (put_mid h n word part)))) checksum)
      → put_mid (h + 48) m (put_mid h n word part) last ≡ bytes (made_of header message dvcc)
  unfolding made_of
  completed dvcc {checksum} {last} ec el =
      let e : checksum ≡ checksum_of information dvcc =
      ec ∙ ap (λ (l : List ℕ). checksum_of (bits l) dvcc) front ∙ ap (λ (u : List Bool). checksum_of u dvcc) (bits-bytes information) in
      let room : length (take m (drop (h + 48) (put_mid h n word part))) ≡ 16 = length-take-le m (drop (h + 48) (put_mid h n word part)) (omega (arith, back)) ∙ omega arith in
      let none : drop m (drop (h + 48) (put_mid h n word part)) ≡ [] = drop_of_length-le (drop (h + 48) (put_mid h n word part)) {i = m} (omega (arith, back)) in
      ap₂ (λ (a b : List ℕ). a ++ (last ++ b)) front none
      ∙ ap (λ (l : List ℕ). bytes information ++ l) (append-nil last ∙ el ∙ ap₂ (λ (k x : ℕ). bytes (unpacked k x)) room e)
      ∙ sym (bytes-append information (unpacked 16 (checksum_of information dvcc)))
