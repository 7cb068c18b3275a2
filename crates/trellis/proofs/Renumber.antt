-- One code under two numberings of its states, f from the one to the other, with branch metrics that agree in the first n steps. Assumes nothing.
use mathlib.Core.Path.{◌≡◌, refl, sym, ap, ◌∙◌}
use mathlib.Core.Bool.{Bool}
use mathlib.Core.List.{List, [], ◌∷◌}
use Prim.Native.Nat.{ℕ, ◌<◌, ◌≤◌}
use native.Mathlib.Omega.{arith}
use lib.ListN.{length}
use Rattle.trellis.specs.Search.{FoundFirst}
use Rattle.trellis.specs.declared.Outcome.{Outcome}
use Rattle.trellis.proofs.Searching.{found_first_to}
use Rattle.trellis.specs.Numbering.{Numbering}
use Rattle.trellis.specs.Words.{state_after, word_metric, Leads}
use Rattle.trellis.proofs.Registers.{Register, Renumbers}
use Rattle.trellis.proofs.PathWord.{state_below}

module _ (N M : Numbering) (reg : Register N) (f : ℕ → ℕ) (ren : Renumbers N M f) (branch branch' : ℕ → ℕ → Bool → ℕ) (n : ℕ)
    (same : (k s : ℕ) (b : Bool) → k < n → s < 32 → branch k s b ≡ branch' k (f s) b) where
  state_same : (s : ℕ) (u : List Bool) → s < 32 → f (state_after N s u) ≡ state_after M (f s) u
  unfolding state_after
  state_same s [] h = refl
  state_same s (b ∷ u) h = ren.next_same (state_after N s u) b (state_below N reg s u h) ∙ ap (λ (x : ℕ). M.next x b) (state_same s u h)

  pub metric_same : (s : ℕ) (u : List Bool) → s < 32 → length u ≤ n → word_metric N branch s u ≡ word_metric M branch' (f s) u
  unfolding word_metric
  metric_same s [] h l = refl
  metric_same s (b ∷ u) h l =
      let a : word_metric N branch s u ≡ word_metric M branch' (f s) u = metric_same s u h (omega arith) in
      let c : branch (length u) (state_after N s u) b ≡ branch' (length u) (state_after M (f s) u) b =
      same (length u) (state_after N s u) b l (state_below N reg s u h) ∙ ap (λ (x : ℕ). branch' (length u) x b) (state_same s u h) in
      omega arith

  module _ (s t : ℕ) (hs : s < 32) (ht : t < 32) where
    leads_to : (u : List Bool) → Leads N s t n u → Leads M (f s) (f t) n u
    leads_to u d = record { steps = d.steps; ends = sym (state_same s u hs) ∙ ap f d.ends }

    leads_from : (u : List Bool) → Leads M (f s) (f t) n u → Leads N s t n u
    leads_from u d = record { steps = d.steps; ends = ren.one (state_after N s u) t (state_below N reg s u hs) ht (state_same s u hs ∙ d.ends) }

    -- what is found under the one numbering is found under the other
    pub found_renumbered : (bits : List ℕ) (r : Outcome) → FoundFirst (Leads N s t n) (word_metric N branch s) bits r → FoundFirst (Leads M (f s) (f t) n) (word_metric M branch' (f s)) bits r
    found_renumbered = found_first_to leads_to leads_from (λ u d. metric_same s u hs (omega (arith, d.steps)))
