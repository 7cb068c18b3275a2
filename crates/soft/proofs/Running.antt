-- The loop of `forward`: a butterfly step is one step of the forward recursion, and stores what the Rust does. Assumes nothing.
use mathlib.Core.Path.{◌≡◌, refl, sym, ap, ap₂, ◌∙◌, subst}
use mathlib.Core.Bool.{Bool, true, false, cond}
use mathlib.Core.List.{List, [], ◌∷◌}
use Prim.Native.Nat.{ℕ, zero, suc, ◌+◌, ◌*◌, ◌≤◌, ◌<◌}
use native.Mathlib.Omega.{arith}
use native.Mathlib.Nat.{le_of_suc-le-suc, not-suc-le-zero}
use native.Mathlib.Numerals.{add-one}
use lib.ListN.{length, get_or, set, replicate, get_or-replicate, length-set}
use lib.Ieee.{Float, nan, inf, binary64, add}
use Rattle.bits.proofs.Filled.{set_next}
use Rattle.trellis.specs.Trellis.{doubles, state_metric, candidate, decision}
use Rattle.trellis.specs.Numbering.{pred_high}
use Rattle.trellis.proofs.Registers.{register_high_lem}
use Rattle.soft.specs.Reliability.{zero_f, all_finite}
use Rattle.soft.specs.Branch.{soft_trellis}
use Rattle.soft.specs.RustOrder.{rust_from}
use Rattle.soft.specs.Step.{lesser_of, chosen_of, stored_of, candidate_of, metric_into, chosen_into, Branched, Advanced, StoredTo}
use Rattle.soft.specs.declared.step.Branches.{Branches}
use Rattle.search.specs.declared.butterfly.Column.{Column}
use Rattle.soft.proofs.Costs.{branch_into_lem}
use Rattle.soft.proofs.RustOrder.{rust_stored}

-- the metrics after k steps
abbrev MetricsAt : List Float → List Float → ℕ → Type 0
MetricsAt values ms k = (t : ℕ) → t < 32 → get_or ms t nan ≡ state_metric doubles (soft_trellis values) k t

-- after k of n steps
pub record Running (values : List Float) (n : ℕ) (ms : List Float) (rows : List (List ℕ)) (k : ℕ) : Type 0 where
  pub low : k ≤ n
  pub size : length rows ≡ 130
  pub metrics : MetricsAt values ms k
  pub stored : StoredTo values rows k

start_metrics : (values ms : List Float) → ms ≡ zero_f ∷ replicate 31 (inf false) → MetricsAt values ms 0
unfolding state_metric
start_metrics values ms e zero h = ap (λ (l : List Float). get_or l 0 nan) e
start_metrics values ms e (suc t) h = ap (λ (l : List Float). get_or l (suc t) nan) e ∙ get_or-replicate 31 t (inf false) nan (le_of_suc-le-suc h)

pub running_none : (values : List Float) (n : ℕ) (ms : List Float) (rows : List (List ℕ)) → ms ≡ zero_f ∷ replicate 31 (inf false) → length rows ≡ 130 → Running values n ms rows 0
running_none values n ms rows e l = record { low = omega arith; size = l; metrics = start_metrics values ms e; stored = λ k h. absurd (not-suc-le-zero h) }

module _ (values ms : List Float) (k : ℕ) (hm : MetricsAt values ms k) (branch : Branches) (hb : Branched (get_or values (k * 2) nan) (get_or values (k * 2 + 1) nan) branch)
    (r : Column (List Float)) (adv : Advanced ms branch.zeros branch.ones r) where
  candidate_at : (t : ℕ) (b : Bool) → t < 32 → candidate_of ms branch.zeros branch.ones t b ≡ candidate doubles (soft_trellis values) k t b
  candidate_at t b h = ap₂ (add binary64) (hm (pred_high t b) (register_high_lem.pred_below t b h)) (branch_into_lem hb t b h)

  metric_at : (t : ℕ) → t < 32 → metric_into ms branch.zeros branch.ones t ≡ state_metric doubles (soft_trellis values) (suc k) t
  unfolding lesser_of state_metric
  metric_at t h = ap₂ lesser_of (candidate_at t false h) (candidate_at t true h)

  step_metrics : MetricsAt values r.metrics (k + 1)
  step_metrics = subst (MetricsAt values r.metrics) (sym (add-one k)) (λ t h. adv.metric t h ∙ metric_at t h)

  chosen_pred : (t : ℕ) (d : Bool) → cond d (pred_high t false + 1) (pred_high t false) ≡ pred_high t d
  chosen_pred t true = refl
  chosen_pred t false = refl

  chosen_at : (t : ℕ) → t < 32 → chosen_into ms branch.zeros branch.ones t ≡ pred_high t (decision doubles (soft_trellis values) k t)
  unfolding chosen_of
  chosen_at t h =
      ap₂ (λ (a b : Float). chosen_of a b (pred_high t false)) (candidate_at t false h) (candidate_at t true h)
      ∙ chosen_pred t (decision doubles (soft_trellis values) k t)

  step_stored : (n : ℕ) → n * 2 ≤ length values → all_finite values ≡ true → k < n → (t : ℕ) → t < 32 → get_or r.predecessors t 0 ≡ rust_from values k t
  step_stored n long all hk t h = adv.stored t h ∙ ap₂ stored_of (metric_at t h) (chosen_at t h) ∙ rust_stored values n long all k t hk h

pub running_more : {values : List Float} {n : ℕ} {ms : List Float} {rows : List (List ℕ)} {k : ℕ} → Running values n ms rows k → k < n → n ≤ 130
    → n * 2 ≤ length values → all_finite values ≡ true
    → (branch : Branches) → Branched (get_or values (k * 2) nan) (get_or values (k * 2 + 1) nan) branch → (r : Column (List Float)) → Advanced ms branch.zeros branch.ones r
    → Running values n r.metrics (set rows k r.predecessors) (k + 1)
running_more {values} {n} {ms} {rows} {k} i h l long all branch hb r adv =
    record {
      low = omega arith;
      size = length-set rows k r.predecessors ∙ i.size;
      metrics = step_metrics values ms k i.metrics branch hb r adv;
      stored = set_next (λ (j : ℕ) (row : List ℕ). (s : ℕ) → s < 32 → get_or row s 0 ≡ rust_from values j s) [] rows k r.predecessors
          (omega (arith, i.size)) (step_stored values ms k i.metrics branch hb r adv n long all h) i.stored;
    }
