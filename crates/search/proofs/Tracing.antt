-- The loop of `traceback`: what is traced and tied_bytes, up to a step, with the bits and the tie so far. Assumes nothing.
use mathlib.Core.Path.{◌≡◌, refl, sym, ap, subst, subst₂, ◌∙◌}
use mathlib.Core.Bool.{Bool, true, false, cond, ◌||◌, ◌&&◌}
use mathlib.Core.List.{List, []}
use Prim.Native.Nat.{ℕ, suc, ◌-◌, ◌%◌, ◌<◌, ◌≤◌}
use native.Mathlib.Omega.{arith}
use native.Mathlib.Nat.{le_refl}
use lib.Dec.{leb}
use lib.ListN.{length, get_or, set, drop, length-set}
use lib.Seq.{drop-length}
use Rattle.bits.proofs.Filled.{drop-set_here}
use Rattle.search.specs.Traceback.{traced, from_byte, lowest, tie_with, tied_bytes, Traced}

pub record Tracing (ps : List (List ℕ)) (since end : ℕ) (bits₀ bits : List ℕ) (state step : ℕ) (tie : Bool) : Type 0 where
  pub size : length bits ≡ length bits₀
  pub low : step ≤ length bits₀
  pub below : state < 32
  pub word : traced lowest (from_byte ps) (length bits₀) end [] ≡ traced lowest (from_byte ps) step state (drop step bits)
  pub tied : tied_bytes ps since (length bits₀) end false ≡ tied_bytes ps since step state tie

-- a tie so far, or a late byte with the mark
tie_or : (tie late mark : Bool) → (tie || (late && mark)) ≡ cond tie true (cond late mark false)
tie_or true late mark = refl
tie_or false true mark = refl
tie_or false false mark = refl

module _ (ps : List (List ℕ)) (since end : ℕ) (bits₀ : List ℕ) where
  pub tracing_none : end < 32 → Tracing ps since end bits₀ bits₀ end (length bits₀) false
  tracing_none h =
      record { size = refl; low = le_refl _; below = h; word = ap (traced lowest (from_byte ps) (length bits₀) end) (sym (drop-length bits₀)); tied = refl }

  tracing_suc : (bits : List ℕ) (state n : ℕ) (tie : Bool) → Tracing ps since end bits₀ bits state (suc n) tie
      → Tracing ps since end bits₀ (set bits n (state % 2)) (get_or (get_or ps n []) state 0 % 32) n (tie_with tie (get_or (get_or ps n []) state 0) (leb since n))
  unfolding traced tied_bytes
  tracing_suc bits state n tie i =
      let l : length bits ≡ length bits₀ = i.size in
      record {
        size = length-set bits n (state % 2) ∙ i.size;
        low = omega arith;
        below = omega arith;
        word = i.word ∙ ap (traced lowest (from_byte ps) n (get_or (get_or ps n []) state 0 % 32)) (sym (drop-set_here bits n (state % 2) (omega arith)));
        tied = i.tied;
      }

  pub tracing_more : {bits : List ℕ} {state step : ℕ} {tie : Bool} {state' : ℕ} → Tracing ps since end bits₀ bits state step tie → 0 < step
      → state' ≡ get_or (get_or ps (step - 1) []) state 0 % 32
      → Tracing ps since end bits₀ (set bits (step - 1) (state % 2)) state' (step - 1) (tie || (leb since (step - 1) && leb 32 (get_or (get_or ps (step - 1) []) state 0)))
  tracing_more {bits} {state} {step} {tie} {state'} i h es =
      let e : step ≡ suc (step - 1) = omega arith in
      subst₂ (λ (s : ℕ) (t : Bool). Tracing ps since end bits₀ (set bits (step - 1) (state % 2)) s (step - 1) t) (sym es) (sym (tie_or tie (leb since (step - 1)) (leb 32 (get_or (get_or ps (step - 1) []) state 0))))
      (tracing_suc bits state (step - 1) tie (subst (λ (k : ℕ). Tracing ps since end bits₀ bits state k tie) e i))

  pub tracing_done : (bits : List ℕ) (state step : ℕ) (tie : Bool) → Tracing ps since end bits₀ bits state step tie → step ≤ 0
      → Traced ps since (length bits₀) end bits tie
  unfolding traced tied_bytes
  tracing_done bits state step tie i h =
      let e : step ≡ 0 = omega arith in
      record {
        word = sym (i.word ∙ ap (λ (k : ℕ). traced lowest (from_byte ps) k state (drop k bits)) e);
        tied = sym (i.tied ∙ ap (λ (k : ℕ). tied_bytes ps since k state tie) e);
      }
