-- The loop of `convolutional_encode`: after k inputs the first places hold the coded bits of a run of k inputs. Assumes nothing.
use mathlib.Core.Path.{◌≡◌, refl, sym, ap, subst, subst₂, ◌∙◌}
use mathlib.Core.Bool.{Bool}
use mathlib.Core.List.{List, [], ◌∷◌, ◌++◌}
use Prim.Native.Nat.{ℕ, ◌+◌, ◌*◌, ◌<◌, ◌≤◌}
use native.Mathlib.Omega.{arith}
use native.Mathlib.Nat.{zero-mul, suc-mul}
use native.Mathlib.Numerals.{add-one}
use lib.ListN.{length, get_or, take}
use lib.Seq.{take_all, take-suc}
use Rattle.bits.specs.Bits.{bit, bits}
use Rattle.bits.proofs.Binary.{bits-append}
use Rattle.coding.specs.Laws.{CodeLaws}
use Rattle.coding.specs.Registers.{Stepped}
use Rattle.coding.specs.Runs.{Ran}
use Rattle.coding.proofs.Coded.{ran_none, ran_more}

module _ {n : ℕ} {code : List (List Bool)} {memory : ℕ → List Bool} (laws : CodeLaws n code memory) where
  pub record Encoding (s : ℕ) (input out₀ out : List ℕ) (at k : ℕ) : Type 0 where
    pub low : k ≤ length input
    pub size : length out ≡ length out₀
    pub run : Ran code memory s (bits (take k input)) at (take (k * n) out)

  pub encoding_none : (s : ℕ) (input out : List ℕ) → s < 32 → Encoding s input out out s 0
  encoding_none s input out h =
      record {
        low = omega arith;
        size = refl;
        run = subst (λ (m : ℕ). Ran code memory s [] s (take m out)) (sym (zero-mul n)) (ran_none h (sym (take_all 5 (memory s) (omega (arith, laws.five s)))));
      }

  module _ {s : ℕ} {input out₀ out : List ℕ} {at k : ℕ} (i : Encoding s input out₀ out at k) (fits : length out₀ ≡ length input * n) where
    -- one step more, whose output is written after the first places
    pub encoding_more : {next : ℕ} {o new : List ℕ} → k < length input → Stepped code memory at (bit (get_or input k 0)) next o → length new ≡ length out
        → take (k * n + n) new ≡ take (k * n) out ++ o → Encoding s input out₀ new next (k + 1)
    encoding_more {next} {o} {new} h step size sent =
        let x : List Bool = bit (get_or input k 0) ∷ [] in
        let more : (k + 1) * n ≡ k * n + n = ap (λ (m : ℕ). m * n) (add-one k) ∙ suc-mul k n in
        let inputs : bits (take (k + 1) input) ≡ bits (take k input) ++ x =
        ap bits (ap (λ (m : ℕ). take m input) (add-one k) ∙ take-suc input k 0 h) ∙ bits-append (take k input) (get_or input k 0 ∷ []) in
        let outs : take ((k + 1) * n) new ≡ take (k * n) out ++ o = ap (λ (m : ℕ). take m new) more ∙ sent in
        record {
          low = omega arith;
          size = size ∙ i.size;
          run = subst₂ (λ (u : List Bool) (l : List ℕ). Ran code memory s u next l) (sym inputs) (sym outs) (ran_more laws.six i.run step);
        }
