-- The starts in turn: a word of 65 inputs has one start, and after 32 turns every word was tried. Assumes nothing.
use mathlib.Core.Path.{◌≡◌, refl, sym, ap, subst, ◌∙◌}
use mathlib.Core.Bool.{Bool}
use mathlib.Core.List.{List}
use mathlib.Core.Logic.{◌⊎◌, inl, inr}
use Prim.Native.Nat.{ℕ, ◌+◌, ◌%◌, ◌<◌, ◌≤◌}
use native.Mathlib.Omega.{arith}
use native.Mathlib.Decide.{ℕ_discrete}
use lib.ListN.{length, get_or, replicate, get_or-replicate}
use Rattle.search.specs.Forward.{engine, Forwarded, Starts}
use Rattle.trellis.specs.Numbering.{newest_low}
use Rattle.trellis.specs.Search.{Found, FoundFirst}
use Rattle.trellis.specs.Words.{Leads, OfLength, state_after, word_metric}
use Rattle.trellis.specs.declared.Outcome.{Outcome}
use Rattle.trellis.proofs.PathWord.{last_five_lem, metric_least, state_below}
use Rattle.trellis.proofs.Registers.{register_low_lem}
use Rattle.trellis.proofs.Searching.{found_to}
use Rattle.tailbiting.specs.Starts.{Bounds, Tried, better_of, end_of, kept_of, tail_metric, turn_of}
use Rattle.tailbiting.proofs.Joined.{Both, found_alone, found_better}

-- ---- where a word ends
pub end_below : (u : List Bool) → end_of u < 32
unfolding end_of
end_below u = state_below newest_low register_low_lem 0 u (omega arith)

-- it does not depend on the start
end_from : (s : ℕ) (u : List Bool) → s < 32 → length u ≡ 65 → state_after newest_low s u ≡ end_of u
unfolding end_of
end_from s u hs l =
    register_low_lem.memory_one (state_after newest_low s u) (state_after newest_low 0 u) (state_below newest_low register_low_lem s u hs) (state_below newest_low register_low_lem 0 u (omega arith))
    (sym (last_five_lem newest_low register_low_lem s u hs (omega arith)) ∙ last_five_lem newest_low register_low_lem 0 u (omega arith) (omega arith))

pub leads_end : (u : List Bool) → length u ≡ 65 → Leads newest_low (end_of u) (end_of u) 65 u
leads_end u l = record { steps = l; ends = end_from (end_of u) u (end_below u) l }

end_of_lem : (s : ℕ) (u : List Bool) → s < 32 → Leads newest_low s s 65 u → end_of u ≡ s
end_of_lem s u hs d = sym (end_from s u hs d.steps) ∙ d.ends

-- ---- the bounds
pub starts_low : (x : ℕ) → x ≤ 1000 → Starts (replicate 32 x)
starts_low x h s l = omega (arith, get_or-replicate {A = ℕ} 32 s x 0 l)

abbrev none : List ℕ
none = replicate 32 0

zeros : (s : ℕ) → s < 32 → get_or none s 0 ≡ 0
zeros s h = get_or-replicate {A = ℕ} 32 s 0 0 h

pub bounded : (branch : ℕ → ℕ → Bool → ℕ) (ps₀ ps : List (List ℕ)) (n : ℕ) (ms : List ℕ) → Forwarded (engine branch none) ps₀ ps n ms → n ≡ 65 → Bounds branch ms
unfolding tail_metric
bounded branch ps₀ ps n ms f e u l =
    let s : ℕ = end_of u in
    omega (
      arith,
      (subst (λ (k : ℕ). Forwarded (engine branch none) ps₀ ps k ms) e f).metrics s (end_below u),
      metric_least newest_low register_low_lem branch (λ r. get_or none r 0) s s 65 u (end_below u) (end_below u) (leads_end u l),
      zeros s (end_below u),
    )

-- ---- the run from a start finds among the words whose turn it is
pub record TriedAt (first k : ℕ) (u : List Bool) : Type 0 where
  pub steps : length u ≡ 65
  pub turn : turn_of first (end_of u) ≡ k

module _ (branch : ℕ → ℕ → Bool → ℕ) where
  metric_from : (s : ℕ) (u : List Bool) → end_of u ≡ s → word_metric newest_low branch s u ≡ tail_metric branch u
  unfolding tail_metric
  metric_from s u e = ap (λ (r : ℕ). word_metric newest_low branch r u) (sym e)

  module _ (first k s : ℕ) (hf : first < 32) (hk : k < 32) (es : s ≡ (first + k) % 32) where
    below : s < 32
    below = omega arith

    turn_is : (u : List Bool) → end_of u ≡ s → turn_of first (end_of u) ≡ k
    turn_is u e = omega arith

    end_is : (u : List Bool) → turn_of first (end_of u) ≡ k → end_of u ≡ s
    end_is u e = let h : end_of u < 32 = end_below u in omega arith

    at_turn : (bits : List ℕ) (r : Outcome) (n : ℕ) → n ≡ 65 → FoundFirst (Leads newest_low s s n) (word_metric newest_low branch s) bits r → Found (TriedAt first k) (tail_metric branch) bits r
    at_turn bits r n e f =
        found_to
        (λ u d. record { steps = d.steps; turn = turn_is u (end_of_lem s u below d) })
        (λ u d. subst (λ (x : ℕ). Leads newest_low x x 65 u) (end_is u d.turn) (leads_end u d.steps))
        (λ u d. metric_from s u (end_of_lem s u below d))
        bits r (subst (λ (m : ℕ). Found (Leads newest_low s s m) (word_metric newest_low branch s) bits r) e f.found)

    one_more : Both (Tried first k) (TriedAt first k) (Tried first (k + 1))
    one_more =
        record {
          left = λ u h. record { steps = h.steps; early = omega (arith, h.early) };
          right = λ u h. record { steps = h.steps; early = omega (arith, h.turn) };
          split = λ u h. go u h (ℕ_discrete (turn_of first (end_of u)) k);
        }
      where
        go : (u : List Bool) → Tried first (k + 1) u → Dec (turn_of first (end_of u) ≡ k) → Tried first k u ⊎ TriedAt first k u
        go u h (yes e) = inr (record { steps = h.steps; turn = e })
        go u h (no n) = inl (record { steps = h.steps; early = omega (arith, h.early, n) })

    -- passed over: its bound is above the best metric
    pub passed : (bounds inputs : List ℕ) (best : Outcome) → Bounds branch bounds → best.metric < get_or bounds s 0 → Found (Tried first k) (tail_metric branch) inputs best
        → Found (Tried first (k + 1)) (tail_metric branch) inputs best
    passed bounds inputs best b h f =
        found_alone one_more f
        (λ u d. omega (arith, b u d.steps, ap (λ (x : ℕ). get_or bounds x 0) (end_is u d.turn)))

    pub tried_run : (inputs word : List ℕ) (best run : Outcome) (kept : List ℕ) (r : Outcome) (n : ℕ) → n ≡ 65 → Found (Tried first k) (tail_metric branch) inputs best
        → FoundFirst (Leads newest_low s s n) (word_metric newest_low branch s) word run → r ≡ better_of best run → kept ≡ kept_of best run word inputs
        → Found (Tried first (k + 1)) (tail_metric branch) kept r
    tried_run inputs word best run kept r n e f g er ek =
        subst (λ (x : List ℕ). Found (Tried first (k + 1)) (tail_metric branch) x r) (sym ek)
        (subst (λ (x : Outcome). Found (Tried first (k + 1)) (tail_metric branch) (kept_of best run word inputs) x) (sym er)
        (found_better one_more f (at_turn word run n e g) (λ u a b. omega (arith, a.early, b.turn))))

  -- ---- the first start, and all 32
  pub first_found : (first : ℕ) (bits : List ℕ) (r : Outcome) (n : ℕ) → first < 32 → n ≡ 65 → FoundFirst (Leads newest_low first first n) (word_metric newest_low branch first) bits r
      → Found (Tried first 1) (tail_metric branch) bits r
  first_found first bits r n hf e f =
      found_to
      (λ u h. record { steps = h.steps; early = omega (arith, h.turn) })
      (λ u h. record { steps = h.steps; turn = omega (arith, h.early) })
      (λ u h. refl)
      bits r (at_turn first 0 first hf (omega arith) (omega arith) bits r n e f)

  pub all_tried : (first k : ℕ) (bits : List ℕ) (r : Outcome) → 32 ≤ k → Found (Tried first k) (tail_metric branch) bits r → Found (OfLength 65) (tail_metric branch) bits r
  all_tried first k bits r h f =
      found_to (λ u d. d.steps) (λ u d. record { steps = d; early = omega arith }) (λ u d. refl) bits r f
