-- The loop of `traceback`: what is left to read, before what was read, is the survivor's word. Assumes nothing.
use mathlib.Core.Path.{◌≡◌, refl, sym, ap, ◌∙◌, subst}
use mathlib.Core.List.{List, [], ◌∷◌, reverse}
use Prim.Native.Nat.{ℕ, zero, suc, ◌-◌, ◌/◌, ◌≤◌, ◌<◌}
use native.Mathlib.Omega.{arith}
use native.Mathlib.Nat.{le_refl}
use lib.ListN.{length, set, drop, length-set}
use lib.Seq.{drop-length}
use lib.Ieee.{Float}
use Rattle.bits.specs.Bits.{bytes}
use Rattle.bits.proofs.Filled.{drop-set_here}
use Rattle.trellis.specs.Numbering.{newest_high, pred_high}
use Rattle.trellis.specs.Trellis.{doubles, decision}
use Rattle.search.specs.Traceback.{traced}
use Rattle.trellis.proofs.Registers.{register_high_lem, high_bit}
use Rattle.search.proofs.Survivors.{traced-word}
use Rattle.soft.specs.Branch.{soft_branch, soft_start, soft_trellis}
use Rattle.soft.specs.RustOrder.{highest}
use Rattle.soft.specs.Soft.{soft_word}

pub record Tracing (from : ℕ → ℕ → ℕ) (word₀ word : List ℕ) (state step : ℕ) : Type 0 where
  pub size : length word ≡ length word₀
  pub low : step ≤ length word₀
  pub below : state < 32
  pub rest : traced highest from (length word₀) 0 [] ≡ traced highest from step state (drop step word)

module _ (from : ℕ → ℕ → ℕ) (word₀ : List ℕ) where
  pub tracing_none : Tracing from word₀ word₀ 0 (length word₀)
  tracing_none = record { size = refl; low = le_refl _; below = omega arith; rest = ap (traced highest from (length word₀) 0) (sym (drop-length word₀)) }

  tracing_suc : (word : List ℕ) (state n : ℕ) → Tracing from word₀ word state (suc n) → from n state < 32 → Tracing from word₀ (set word n (state / 16)) (from n state) n
  unfolding traced
  tracing_suc word state n i h =
      let l : length word ≡ length word₀ = i.size in
      record {
        size = length-set word n (state / 16) ∙ i.size;
        low = omega arith;
        below = h;
        rest = i.rest ∙ ap (traced highest from n (from n state)) (sym (drop-set_here word n (state / 16) (omega arith)));
      }

  pub tracing_more : (word : List ℕ) (state step state' : ℕ) → Tracing from word₀ word state step → 0 < step → state' ≡ from (step - 1) state
      → ((k s : ℕ) → k < length word₀ → s < 32 → from k s < 32) → Tracing from word₀ (set word (step - 1) (state / 16)) state' (step - 1)
  tracing_more word state step state' i h e below =
      let e' : step ≡ suc (step - 1) = omega arith in
      let b : from (step - 1) state < 32 = below (step - 1) state (omega (arith, i.low)) i.below in
      subst (λ (s : ℕ). Tracing from word₀ (set word (step - 1) (state / 16)) s (step - 1)) (sym e)
      (tracing_suc word state (step - 1) (subst (λ (k : ℕ). Tracing from word₀ word state k) e' i) b)

  pub tracing_done : (word : List ℕ) (state step : ℕ) → Tracing from word₀ word state step → step ≤ 0 → word ≡ traced highest from (length word₀) 0 []
  unfolding traced
  tracing_done word state step i h =
      let e : step ≡ 0 = omega arith in
      sym (i.rest ∙ ap (λ (k : ℕ). traced highest from k state (drop k word)) e)

-- what is traced by decided predecessors
pub decided-traced : (values : List Float) (from : ℕ → ℕ → ℕ) (n : ℕ) → ((k s : ℕ) → k < n → s < 32 → from k s ≡ pred_high s (decision doubles (soft_trellis values) k s))
    → traced highest from n 0 [] ≡ bytes (reverse (soft_word values n))
unfolding soft_word
decided-traced values from n d =
    traced-word doubles newest_high register_high_lem (soft_branch values) soft_start highest (λ t h. sym (high_bit t h)) from n 0 [] (omega arith) d

-- tables that agree on the states are traced alike
pub traced_same : (from table : ℕ → ℕ → ℕ) (n t : ℕ) (after : List ℕ) → t < 32 → ((k s : ℕ) → k < n → s < 32 → from k s ≡ table k s)
    → ((k s : ℕ) → k < n → s < 32 → table k s < 32) → traced highest from n t after ≡ traced highest table n t after
unfolding traced
traced_same from table zero t after h e b = refl
traced_same from table (suc n) t after h e b =
    ap (λ (s : ℕ). traced highest from n s (highest t ∷ after)) (e n t (omega arith) h)
    ∙ traced_same from table n (table n t) (highest t ∷ after) (b n t (omega arith) h) (λ k s hk hs. e k s (omega arith) hs) (λ k s hk hs. b k s (omega arith) hs)
