-- What `nearest_free` finds. Assumes nothing.
use mathlib.Core.Path.{◌≡◌, refl, sym, ap, subst, ◌∙◌}
use mathlib.Core.Bool.{Bool, true, false, ◌||◌}
use mathlib.Core.List.{List}
use mathlib.Core.Logic.{◌⊎◌, inl, inr}
use Prim.Native.Nat.{ℕ, ◌<◌, ◌≤◌}
use native.Mathlib.Omega.{arith}
use lib.ListN.{get_or, replicate, get_or-replicate}
use Rattle.trellis.specs.Search.{Ambiguous, Found}
use Rattle.trellis.specs.Numbering.{newest_low}
use Rattle.trellis.specs.Words.{OfLength, free_metric}
use Rattle.trellis.specs.Trellis.{Trellis, wholes, state_metric, survivor, tie, word}
use Rattle.search.specs.Forward.{engine, Starts, Forwarded}
use Rattle.search.specs.Traceback.{Traced}
use Rattle.search.specs.Ends.{Other, LowestEnd}
use Rattle.search.specs.declared.free.End.{End}
use Rattle.trellis.proofs.Registers.{register_low_lem}
use Rattle.search.proofs.Survivors as surv
use Rattle.trellis.proofs.FreeStart as free

abbrev zeros : List ℕ
zeros = replicate 32 0

zero_start : (s : ℕ) → s < 32 → get_or zeros s 0 ≡ 0
zero_start s h = get_or-replicate {A = ℕ} 32 s 0 0 h

pub zeros_start : Starts zeros
zeros_start s h = omega (arith, zero_start s h)

module _ (branch : ℕ → ℕ → Bool → ℕ) (n : ℕ) (h5 : 5 ≤ n) (ps₀ ps : List (List ℕ)) (ms : List ℕ) (f : Forwarded (engine branch zeros) ps₀ ps n ms) (d : End) (b : LowestEnd ms 32 d) where
  abbrev X : Trellis ℕ
  X = engine branch zeros

  exact : state_metric wholes X n d.state ≡ d.outcome.metric
  exact = sym (f.metrics d.state b.low) ∙ b.exact

  least : (r : ℕ) → r < 32 → d.outcome.metric ≤ state_metric wholes X n r
  least r h = omega (arith, b.least r h, f.metrics r h)

  pub decides : (bits : List ℕ) (k : ℕ) (mark : Bool) → k ≡ n → Traced ps 5 k d.state bits mark
      → Found (OfLength n) (free_metric newest_low branch) bits (record { metric = d.outcome.metric; tie = d.outcome.tie || mark })
  decides bits k mark en q' =
      record {
        word = word newest_low d.state (survivor wholes X n d.state);
        written = q.word ∙ surv.bytes_word branch zeros ps n d.state b.low f.bytes;
        nearest = free.survivor_nearest newest_low register_low_lem branch (λ s. get_or zeros s 0) zero_start n h5 d.outcome.metric d.state b.low exact least;
        metric = sym (free.survivor_metric newest_low register_low_lem branch (λ s. get_or zeros s 0) zero_start n h5 d.outcome.metric d.state b.low exact least);
        tied = λ t. to d.outcome.tie refl t;
        alone = λ a. from d.outcome.tie refl (free.ambiguous_found newest_low register_low_lem branch (λ s. get_or zeros s 0) zero_start n h5 d.outcome.metric d.state b.low exact least a);
      }
    where
      q : Traced ps 5 n d.state bits mark
      q = subst (λ (j : ℕ). Traced ps 5 j d.state bits mark) en q'

      mark_is : mark ≡ tie X 5 n d.state
      mark_is = q.tied ∙ surv.tied_bytes_lem branch zeros ps 5 n d.state false b.low f.bytes

      to : (v : Bool) → d.outcome.tie ≡ v → (v || mark) ≡ true → Ambiguous (OfLength n) (free_metric newest_low branch)
      to true s t =
          let o : Other ms 32 d = b.shared s in
          free.ends_ambiguous newest_low register_low_lem branch (λ s. get_or zeros s 0) zero_start n h5 d.outcome.metric d.state b.low exact least o.at o.low
          (sym (f.metrics o.at o.low) ∙ o.same) o.apart
      to false s t = free.tie_ambiguous newest_low register_low_lem branch (λ s. get_or zeros s 0) zero_start n h5 d.outcome.metric d.state b.low exact least (sym mark_is ∙ t)

      either_true : (v : Bool) → (v || true) ≡ true
      either_true true = refl
      either_true false = refl

      from : (v : Bool) → d.outcome.tie ≡ v → ((r : ℕ) × (r < 32) × (state_metric wholes X n r ≡ d.outcome.metric) × (r ≡ d.state → ⊥)) ⊎ (tie X 5 n d.state ≡ true) → (v || mark) ≡ true
      from v s (inl o) =
          ap (λ (w : Bool). w || mark) (sym s ∙ b.other (record { at = o.0; low = o.1; same = f.metrics o.0 o.1 ∙ o.2; apart = o.3 }))
      from v s (inr t) = ap (λ (w : Bool). v || w) (mark_is ∙ t) ∙ either_true v
