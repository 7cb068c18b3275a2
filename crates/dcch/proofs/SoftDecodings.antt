-- The ways out of `decode_soft`. Assumes nothing.
use mathlib.Core.Path.{◌≡◌, refl, sym, ap, subst, ◌∙◌}
use mathlib.Core.Bool.{Bool, true, false≢true, ◌&&◌}
use mathlib.Core.List.{List, [], ◌∷◌, ◌++◌}
use Prim.Native.Nat.{ℕ, suc, ◌+◌, ◌*◌, ◌/◌, ◌^◌, ◌<◌, ◌≤◌}
use native.Mathlib.Omega.{arith}
use lib.ListN.{length, get_or, take, drop}
use lib.Ieee.{Float, nan}
use Rattle.std.specs.Prelude.{Result, Ok}
use Rattle.bits.specs.Arguments.{exact_of, Arguments}
use Rattle.bits.specs.declared.Refusal.{Refusal}
use Rattle.bits.proofs.LentPart.{became, became_length}
use Rattle.bits.proofs.Refusing.{never_both, passed_first, passed_exact}
use Rattle.soft.specs.Reliability.{is_finite, all_finite, WholeWithin, AllWhole}
use Rattle.soft.specs.RustOrder.{rust_bits}
use Rattle.soft.specs.Soft.{soft_word, total_cost, NoRounding, SoftFound}
use Rattle.soft.proofs.Tests.{finite_each}
use Rattle.trellis.specs.Search.{First}
use Rattle.trellis.specs.Words.{Terminated}
use Rattle.dcch_interleaver.specs.declared.BlockFormat.{BlockFormat}
use Rattle.dcch.specs.declared.crc.CrcMode.{CrcMode}
use Rattle.dcch_interleaver.specs.Formats.{encoded_bits, information_bits}
use Rattle.dcch_interleaver.specs.Wire.{deinterleaved}
use Rattle.dcch.specs.SoftBlocks.{soft_arguments, signs_of, CellsSearched, SoftEnd, SoftDecoding}
use Rattle.dcch_interleaver.proofs.Wiring.{wire_below}
use Rattle.dcch_interleaver.proofs.Interleaved.{deinterleaved-length, deinterleaved_at}
use Rattle.dcch.proofs.Encodings.{format_sizes}
use Rattle.dcch.proofs.Decodings.{half_bits}

-- values that are each finite
each_finite : (l : List Float) → ((i : ℕ) → i < length l → is_finite (get_or l i nan) ≡ true) → all_finite l ≡ true
unfolding all_finite
each_finite [] h = refl
each_finite (x ∷ l) h = ap (λ (b : Bool). b && all_finite l) (h 0 (omega arith)) ∙ each_finite l (λ i b. h (suc i) (omega arith))

-- what holds of each value of a block holds of each of its cells
at_cells : (P : Float → Type 0) (f : BlockFormat) (block : List Float) → length block ≡ encoded_bits f → ((i : ℕ) → i < length block → P (get_or block i nan))
    → (i : ℕ) → i < length (deinterleaved f nan block) → P (get_or (deinterleaved f nan block) i nan)
at_cells P f block l h i b =
    let c : i < encoded_bits f = omega (arith, deinterleaved-length f nan block) in
    subst P (sym (deinterleaved_at f nan block i c)) (h _ (omega (arith, wire_below f i c)))

module _ (f : BlockFormat) (block : List Float) (dvcc : ℕ) (mode : CrcMode) (information₀ : List ℕ) {l : Arguments} (told : l ≡ soft_arguments f (length block) (length information₀)) where
  tests : soft_arguments f (length block) (length information₀) ≡ Ok tt → (encoded_bits f ≡ length block) × (information_bits f ≡ length information₀)
  tests e =
      let a = passed_first (exact_of (encoded_bits f) (length block)) (exact_of (information_bits f) (length information₀)) e in
      (passed_exact (encoded_bits f) (length block) a.0, passed_exact (information_bits f) (length information₀) a.1)

  cells_finite : soft_arguments f (length block) (length information₀) ≡ Ok tt → all_finite block ≡ true → all_finite (deinterleaved f nan block) ≡ true
  cells_finite e h = each_finite (deinterleaved f nan block) (at_cells (λ (x : Float). is_finite x ≡ true) f block (sym (tests e).0) (finite_each block h))

  cells_whole : soft_arguments f (length block) (length information₀) ≡ Ok tt → AllWhole block → AllWhole (deinterleaved f nan block)
  cells_whole e h = at_cells (WholeWithin (2 ^ 40)) f block (sym (tests e).0) h

  -- the end of the decoding of the cells is that of the block's
  cells_end : {count : List Bool → List Float → ℕ} {information : List ℕ} {r : Result ℕ Refusal} → soft_arguments f (length block) (length information₀) ≡ Ok tt
      → CellsSearched count (deinterleaved f nan block) dvcc mode information₀ information r → SoftEnd count f block dvcc mode information₀ information r
  cells_end {count} {information} {r} e c =
      let steps : length information₀ + 21 ≡ encoded_bits f / 2 = omega (arith, (tests e).1, half_bits f) in
      let g : SoftFound (deinterleaved f nan block) (length information₀ + 21) c.bits = c.found in
      record {
        word = g.word;
        terminated = subst (λ (m : ℕ). Terminated m g.word) steps g.terminated;
        rust = sym g.written ∙ g.rust ∙ ap (rust_bits (deinterleaved f nan block)) steps;
        survivor = g.survivor ∙ ap (soft_word (deinterleaved f nan block)) steps;
        exact = λ h. subst (NoRounding (deinterleaved f nan block)) steps (g.exact (cells_whole e h));
        nearest = λ h. subst (λ (m : ℕ). First (Terminated m) (total_cost (deinterleaved f nan block)) g.word) steps (g.nearest (cells_whole e h));
        finished = c.finished;
      }

  module _ (passed : l ≡ Ok tt) {a : Bool} (read : a ≡ all_finite block) (finite : a ≡ true) (n : ℕ) (en : n ≡ encoded_bits f) (zeros : List Float) (many : length zeros ≡ 260)
      (cells : List Float) (kept : length cells ≡ length (take n zeros)) (wired : cells ≡ deinterleaved f nan block) where
    room : n ≤ length zeros
    room = omega (arith, (format_sizes f).2)

    part : take n (cells ++ drop n zeros) ≡ cells
    part = became n zeros room cells kept

    pub asks_cells : (length information₀ ≤ 109) × (length (take n (cells ++ drop n zeros)) ≡ (length information₀ + 21) * 2) × (all_finite (take n (cells ++ drop n zeros)) ≡ true)
    asks_cells =
        let i : information_bits f ≡ length information₀ = (tests (sym told ∙ passed)).1 in (
          omega (arith, i, (format_sizes f).1),
          omega (arith, ap length part, became_length n zeros room cells kept, i, (format_sizes f).0),
          ap all_finite (part ∙ wired) ∙ cells_finite (sym told ∙ passed) (sym read ∙ finite),
        )

    pub settled_end : {information : List ℕ} {r : Result ℕ Refusal} → CellsSearched signs_of (take n (cells ++ drop n zeros)) dvcc mode information₀ information r
        → SoftDecoding f block dvcc mode information₀ information r
    settled_end {information} {r} e =
        record {
          declined = λ y ey. never_both passed (told ∙ ey);
          unreadable = λ ef k. absurd (false≢true (sym k ∙ sym read ∙ finite));
          settled = λ ef k. cells_end ef (subst (λ (v : List Float). CellsSearched signs_of v dvcc mode information₀ information r) (part ∙ wired) e);
        }
