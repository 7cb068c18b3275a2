-- What a decoding accepts, on the air: the coded bits of its word are the block that `encode` sends for its information, since checksum and tail are right,
-- and the corrected bits are the places where that block and the received one differ. Assumes nothing.
use mathlib.Core.Path.{◌≡◌, refl, sym, ap, ap₂, subst, ◌∙◌}
use mathlib.Core.Bool.{Bool, true, false}
use mathlib.Core.List.{List, ◌++◌, map, reverse, reverse-append}
use Prim.Native.Nat.{ℕ, ◌+◌, ◌/◌}
use native.Mathlib.Omega.{arith}
use lib.Dec.{T, eqb→eq}
use lib.ListN.{length, take, drop, replicate, length-reverse, length-drop, length-map, take-append-drop}
use lib.Seq.{length-take-le, drop_at, drop-drop}
use lib.Ieee.{Float, nan}
use Rattle.bits.specs.Bits.{bit, bits, disagreement, disagreements}
use Rattle.bits.specs.Numbers.{packed, unpacked}
use Rattle.std.specs.Prelude.{Result, Ok, Err}
use Rattle.bits.specs.Arguments.{exact_of, Arguments}
use Rattle.bits.specs.declared.Refusal.TheVariants.{Crc}
use Rattle.bits.proofs.Binary.{bits-bytes}
use Rattle.bits.proofs.Packed.{unpacked-packed}
use Rattle.bits.proofs.Refusing.{passed_room, passed_first, passed_exact}
use Rattle.coding.specs.Codes.{coded, dcch}
use Rattle.coding.specs.Registers.{memory_high}
use Rattle.checksums.specs.Checksums.{carries}
use Rattle.trellis.specs.Words.{Terminated}
use Rattle.viterbi.specs.Hard.{weight_from}
use Rattle.soft.specs.Reliability.{all_finite, negative, sign_count}
use Rattle.dcch_interleaver.specs.declared.BlockFormat.{BlockFormat}
use Rattle.dcch_interleaver.specs.Formats.{encoded_bits, information_bits}
use Rattle.dcch_interleaver.specs.Wire.{deinterleaved}
use Rattle.dcch_interleaver.proofs.Interleaved.{map-deinterleaved}
use Rattle.dcch_interleaver.proofs.Disagreements.{tally_on_air}
use Rattle.dcch.specs.declared.crc.CrcMode.{CrcMode}
use Rattle.dcch.specs.Crc.{block_valid, sent_checksum}
use Rattle.bits.specs.declared.Refusal.{Refusal}
use Rattle.dcch.specs.Blocks.{inputs_of, cells_of, block_of, decode_arguments, Finished, Settled, Decoding}
use Rattle.dcch.specs.SoftBlocks.{soft_arguments, signs_of, SoftEnd, SoftDecoding}
use Rattle.dcch.proofs.Decodings.{half_bits}
use Rattle.dcch.proofs.RoundTrip.{cells_length}

module _ (f : BlockFormat) (dvcc : ℕ) (mode : CrcMode) where
  -- ---- a word whose checksum is right
  module _ (w : List Bool) (t : Terminated (encoded_bits f / 2) w) (n : ℕ) (size : n ≡ information_bits f) (valid : block_valid n (reverse w) dvcc mode ≡ true) where
    abbrev inputs : List Bool
    inputs = reverse w

    abbrev information : List Bool
    information = take n inputs

    inputs_length : length inputs ≡ n + 21
    inputs_length = length-reverse w ∙ omega (arith, t.steps, half_bits f)

    information_length : length information ≡ information_bits f
    information_length = length-take-le n inputs (omega (arith, inputs_length)) ∙ size

    checksum_bits : take 16 (drop n inputs) ≡ unpacked 16 (sent_checksum information dvcc mode)
    unfolding carries
    checksum_bits =
        let l : length (take 16 (drop n inputs)) ≡ 16 = length-take-le 16 (drop n inputs) (omega (arith, length-drop n inputs, inputs_length)) in
        sym (unpacked-packed (take 16 (drop n inputs))) ∙ ap₂ unpacked l (eqb→eq (packed (take 16 (drop n inputs))) (sent_checksum information dvcc mode) (subst T (sym valid) tt))

    tail_bits : drop 16 (drop n inputs) ≡ replicate 5 false
    tail_bits =
        let e : inputs ≡ reverse (drop 5 w) ++ reverse (take 5 w) = ap reverse (sym (take-append-drop 5 w)) ∙ reverse-append (take 5 w) (drop 5 w) in
        let l : length (reverse (drop 5 w)) ≡ n + 16 = length-reverse (drop 5 w) ∙ omega (arith, length-drop 5 w, length-reverse w, inputs_length) in
        drop-drop 16 n inputs ∙ ap (drop (n + 16)) e ∙ drop_at (reverse (drop 5 w)) (reverse (take 5 w)) (n + 16) l ∙ ap reverse t.tail

    own_inputs : inputs ≡ inputs_of information (sent_checksum information dvcc mode)
    unfolding inputs_of
    own_inputs =
        sym (take-append-drop n inputs)
        ∙ ap (λ (l : List Bool). information ++ l) (sym (take-append-drop 16 (drop n inputs)) ∙ ap₂ (λ (a b : List Bool). a ++ b) checksum_bits tail_bits)

    pub own_cells : coded dcch (memory_high 0) inputs ≡ cells_of information dvcc mode
    unfolding cells_of
    own_cells = ap (coded dcch (memory_high 0)) own_inputs

    -- what its coded bits differ in from received cells, on the air
    pub differ_on_air : (wires : List Bool) (e : Bool) → length wires ≡ encoded_bits f
        → disagreements (coded dcch (memory_high 0) inputs) (deinterleaved f e wires) ≡ disagreements (block_of f information dvcc mode) wires
    unfolding block_of
    differ_on_air wires e l =
        ap (λ (u : List Bool). disagreements u (deinterleaved f e wires)) own_cells
        ∙ tally_on_air disagreement false e f (cells_of information dvcc mode) wires (cells_length f information information_length dvcc mode) l

  -- ---- an accepted decoding
  -- the answer of a decoding that has finished
  taken_only : {inputs : List Bool} {corrected n : ℕ} {information₀ information : List ℕ} {r : Result ℕ Refusal} → Finished inputs corrected dvcc mode information₀ information r
      → r ≡ Ok n → (block_valid (length information₀) inputs dvcc mode ≡ true) × (n ≡ corrected) × (bits information ≡ take (length information₀) inputs)
  taken_only {inputs} {corrected} {n} {information₀} {information} {r} p a = go (block_valid (length information₀) inputs dvcc mode) refl
    where
      go : (b : Bool) → block_valid (length information₀) inputs dvcc mode ≡ b
          → (block_valid (length information₀) inputs dvcc mode ≡ true) × (n ≡ corrected) × (bits information ≡ take (length information₀) inputs)
      go true e = let t = p.taken e in let q : Ok n ≡ Ok corrected = sym a ∙ t.0 in (e, cc, ap bits t.1 ∙ bits-bytes (take (length information₀) inputs))
      go false e = let t = p.failed e in let q : Ok n ≡ Err Crc = sym a ∙ t.0 in (cc, cc, cc)

  pub corrected_on_air : {block information₀ information : List ℕ} {r : Result ℕ Refusal} {n : ℕ} → Decoding f block dvcc mode information₀ information r → r ≡ Ok n
      → n ≡ disagreements (block_of f (bits information) dvcc mode) (bits block)
  unfolding weight_from
  corrected_on_air {block} {information₀} {information} {r} {n} d a = go (decode_arguments f block (length information₀)) refl
    where
      go : (l : Arguments) → decode_arguments f block (length information₀) ≡ l → n ≡ disagreements (block_of f (bits information) dvcc mode) (bits block)
      go (Ok tt) e =
          let tests = passed_room (encoded_bits f) block (information_bits f) (length information₀) refl e in
          let s : Settled f block dvcc mode information₀ information r = d.settled e in
          let t = taken_only s.finished a in
          t.1 ∙ differ_on_air s.word s.first.nearest.word (length information₀) tests.1 t.0 (bits block) false (length-map block bit ∙ tests.0)
          ∙ ap (λ (u : List Bool). disagreements (block_of f u dvcc mode) (bits block)) (sym t.2)
      go (Err why) e = let q : Err why ≡ Ok n = sym (d.declined why e).0 ∙ a in cc

  pub soft_corrected_on_air : {block : List Float} {information₀ information : List ℕ} {r : Result ℕ Refusal} {n : ℕ} → SoftDecoding f block dvcc mode information₀ information r
      → r ≡ Ok n → n ≡ sign_count (block_of f (bits information) dvcc mode) block
  unfolding signs_of
  soft_corrected_on_air {block} {information₀} {information} {r} {n} d a = go (soft_arguments f (length block) (length information₀)) refl
    where
      settled : soft_arguments f (length block) (length information₀) ≡ Ok tt → SoftEnd signs_of f block dvcc mode information₀ information r
          → n ≡ sign_count (block_of f (bits information) dvcc mode) block
      settled e s =
          let sizes = passed_first (exact_of (encoded_bits f) (length block)) (exact_of (information_bits f) (length information₀)) e in
          let t = taken_only s.finished a in
          t.1 ∙ ap (disagreements (coded dcch (memory_high 0) (reverse s.word))) (map-deinterleaved f nan block negative)
          ∙ differ_on_air s.word s.terminated (length information₀) (sym (passed_exact (information_bits f) (length information₀) sizes.1)) t.0 (map negative block) (negative nan)
          (length-map block negative ∙ sym (passed_exact (encoded_bits f) (length block) sizes.0))
          ∙ ap (λ (u : List Bool). sign_count (block_of f u dvcc mode) block) (sym t.2)

      finite : soft_arguments f (length block) (length information₀) ≡ Ok tt → (b : Bool) → all_finite block ≡ b → n ≡ sign_count (block_of f (bits information) dvcc mode) block
      finite e true h = settled e (d.settled e h)
      finite e false h = let q : Err Crc ≡ Ok n = sym (d.unreadable e h).0 ∙ a in cc

      go : (l : Arguments) → soft_arguments f (length block) (length information₀) ≡ l → n ≡ sign_count (block_of f (bits information) dvcc mode) block
      go (Ok tt) e = finite e (all_finite block) refl
      go (Err why) e = let q : Err why ≡ Ok n = sym (d.declined why e).0 ∙ a in cc
