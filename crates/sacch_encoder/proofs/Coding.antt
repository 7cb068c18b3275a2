-- The loop over six inputs: after k of them the row is the number of the coded bits of a run of k inputs. Assumes nothing.
use mathlib.Core.Path.{◌≡◌, refl, sym, ap, ap₂, subst, ◌∙◌}
use mathlib.Core.Bool.{Bool}
use mathlib.Core.List.{List, [], ◌∷◌, ◌++◌, append_assoc}
use Prim.Native.Nat.{ℕ, zero, suc, ◌+◌, ◌*◌, ◌^◌, ◌<◌, ◌≤◌}
use native.Mathlib.Omega.{arith}
use native.Mathlib.Numerals.{add-one}
use lib.ListN.{length, get_or, take, length-map}
use lib.Pow as pow
use lib.Seq.{take_all, take-suc, length-take-le}
use Rattle.bits.specs.Bits.{bit, bits, byte, bytes}
use Rattle.bits.specs.Numbers.{packed}
use Rattle.bits.proofs.Binary.{bits-append, byte-bit, byte_below}
use Rattle.bits.proofs.Packed.{packed_below, packed_snoc}
use Rattle.coding.specs.Codes.{coded, dcch, outputs}
use Rattle.coding.specs.Laws.{dcch_laws}
use Rattle.coding.specs.Registers.{memory_high, Stepped}
use Rattle.coding.specs.Runs.{Encoded, Ran}
use Rattle.coding.proofs.Coded.{coded-length, ran_none, ran_more}

-- ---- the two bits of a step
bytes_at : (w : List Bool) (i : ℕ) → get_or (bytes w) i 0 < 2
bytes_at [] i = omega arith
bytes_at (b ∷ w) zero = byte_below b
bytes_at (b ∷ w) (suc i) = bytes_at w i

module _ {s next : ℕ} {x : Bool} {o : List ℕ} (step : Stepped dcch memory_high s x next o) where
  pub output_below : (i : ℕ) → get_or o i 0 < 2
  output_below i = subst (λ (n : ℕ). n < 2) (sym (ap (λ (l : List ℕ). get_or l i 0) step.sent)) (bytes_at (outputs dcch (x ∷ memory_high s)) i)

  both : o ≡ get_or o 0 0 ∷ get_or o 1 0 ∷ []
  both = step.sent ∙ sym (ap (λ (l : List ℕ). get_or l 0 0 ∷ get_or l 1 0 ∷ []) step.sent)

-- two bits more at the end
two_more : (w : List ℕ) (x y : ℕ) → x < 2 → y < 2 → packed (bits (w ++ (x ∷ y ∷ []))) ≡ packed (bits w) * 4 + (x * 2 + y)
two_more w x y hx hy =
    let one : packed (bits (w ++ (x ∷ []))) ≡ packed (bits w) * 2 + byte (bit x) =
    ap packed (bits-append w (x ∷ [])) ∙ packed_snoc (bits w) (bit x) in
    let two : packed (bits ((w ++ (x ∷ [])) ++ (y ∷ []))) ≡ packed (bits (w ++ (x ∷ []))) * 2 + byte (bit y) =
    ap packed (bits-append (w ++ (x ∷ [])) (y ∷ [])) ∙ packed_snoc (bits (w ++ (x ∷ []))) (bit y) in
    ap (λ (l : List ℕ). packed (bits l)) (sym (append_assoc w (x ∷ []) (y ∷ []))) ∙ two ∙ omega (arith, one, byte-bit x hx, byte-bit y hy)

-- ---- the loop
pub record Coding (memory : ℕ) (six : List ℕ) (row at k : ℕ) : Type 0 where
  pub low : k ≤ 6
  pub out : List ℕ
  pub run : Ran dcch memory_high memory (bits (take k six)) at out
  pub so_far : row ≡ packed (bits out)

pub coding_none : {memory : ℕ} {six : List ℕ} → memory < 32 → Coding memory six 0 memory 0
unfolding packed
coding_none h = record { low = omega arith; out = []; run = ran_none h refl; so_far = refl }

module _ {memory : ℕ} {six : List ℕ} {row at k : ℕ} (c : Coding memory six row at k) (size : length six ≡ 6) where
  pub coding_room : k < 6 → row < 1024
  coding_room h =
      let n : length (bits c.out) ≡ k * 2 =
      length-map c.out bit ∙ ap length c.run.bits ∙ length-map (coded dcch (memory_high memory) (bits (take k six))) byte
      ∙ coded-length dcch (memory_high memory) (bits (take k six))
      ∙ ap (λ (m : ℕ). m * 2) (length-map (take k six) bit ∙ length-take-le k six (omega arith)) in
      let b : packed (bits c.out) < 2 ^ (k * 2) = subst (λ (m : ℕ). packed (bits c.out) < 2 ^ m) n (packed_below (bits c.out)) in
      let p : 2 ^ (k * 2) ≤ 2 ^ 10 = pow.pow_mono {i = k * 2} {j = 10} (omega arith) in
      omega (arith, c.so_far)

  pub coding_more : {next pair : ℕ} {o : List ℕ} → k < 6 → Stepped dcch memory_high at (bit (get_or six k 0)) next o → pair ≡ get_or o 0 0 * 2 + get_or o 1 0
      → Coding memory six (row * 4 + pair) next (k + 1)
  coding_more {next} {pair} {o} h step told =
      let inputs : bits (take (k + 1) six) ≡ bits (take k six) ++ (bit (get_or six k 0) ∷ []) =
      ap bits (ap (λ (n : ℕ). take n six) (add-one k) ∙ take-suc six k 0 (omega arith)) ∙ bits-append (take k six) (get_or six k 0 ∷ []) in
      record {
        low = omega arith;
        out = c.out ++ o;
        run = subst (λ (u : List Bool). Ran dcch memory_high memory u next (c.out ++ o)) (sym inputs) (ran_more dcch_laws.six c.run step);
        so_far =
            ap₂ (λ (n p : ℕ). n * 4 + p) c.so_far told
            ∙ sym (two_more c.out (get_or o 0 0) (get_or o 1 0) (output_below step 0) (output_below step 1))
            ∙ ap (λ (l : List ℕ). packed (bits (c.out ++ l))) (sym (both step));
      }

  pub coding_done : 6 ≤ k → Encoded memory six c.out at
  coding_done h = subst (λ (u : List ℕ). Encoded memory u c.out at) (take_all k six (omega arith)) c.run
