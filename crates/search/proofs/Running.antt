-- The loop of `forward`: `advance` is one step of the forward recursion. Assumes nothing.
use mathlib.Core.Path.{◌≡◌, refl, sym, ap, ap₂, subst, ◌∙◌}
use mathlib.Core.Bool.{Bool, true, false}
use mathlib.Core.List.{List, []}
use Prim.Native.Nat.{ℕ, suc, ◌+◌, ◌*◌, ◌<◌, ◌≤◌}
use native.Mathlib.Omega.{arith}
use native.Mathlib.Nat.{not-suc-le-zero}
use native.Mathlib.Numerals.{add-one}
use lib.Dec.{ltb, ltb→lt}
use lib.ListN.{length, get_or, set, length-set}
use lib.Seq.{get_or-set_other}
use Rattle.bits.specs.Bits.{bit}
use Rattle.trellis.specs.Numbering.{pred_low}
use Rattle.trellis.specs.Trellis.{Trellis, wholes, state_metric, candidate}
use Rattle.trellis.proofs.Registers.{register_low_lem}
use Rattle.bits.proofs.Filled.{set_next}
use Rattle.bits.proofs.Tested.{below_bit}
use Rattle.search.specs.Butterfly.{Advanced, Fit, candidate_of}
use Rattle.search.specs.Forward.{MetricsAt, BytesAt, BytesTo, branch_by, engine, Starts, Rows}
use Rattle.search.specs.Row.{place_of}
use Rattle.search.specs.Select.{lesser_of, byte_of}
use Rattle.search.specs.declared.butterfly.Column.{Column}
use Rattle.trellis.proofs.Optimal as opt

pub place_below : (s : ℕ) (b : Bool) → s < 32 → place_of s b < 64
place_below s b h = ltb→lt (place_of s b) 64 (below_bit (λ b s. ltb (place_of s b) 64) 32 tt tt b s h)

module _ (branch : ℕ → ℕ → Bool → ℕ) (start : List ℕ) where
  abbrev X : Trellis ℕ
  X = engine branch start

  -- the row has the branch metrics of the step k
  abbrev RowAt : List ℕ → ℕ → Type 0
  RowAt row k = (t : ℕ) (b : Bool) → t < 32 → get_or row (place_of (pred_low t b) (bit t)) 0 ≡ branch k (pred_low t b) (bit t)

  module _ (ms : List ℕ) (cs : List ℕ) (k : ℕ) (hm : MetricsAt X ms k) (hc : RowAt cs k) (r : Column (List ℕ)) (adv : Advanced ms cs r) where
    via_at : (t : ℕ) (b : Bool) → t < 32 → candidate_of ms cs t b ≡ candidate wholes X k t b
    via_at t b h = ap₂ (λ (x y : ℕ). x + y) (hm (pred_low t b) (register_low_lem.pred_below t b h)) (hc t b h)

    pub step_metrics : MetricsAt X r.metrics (suc k)
    unfolding lesser_of state_metric
    step_metrics t h = adv.metric t h ∙ ap₂ lesser_of (via_at t false h) (via_at t true h)

    pub step_row : BytesAt X r.predecessors k
    step_row t h = adv.byte t h ∙ ap₂ (λ (x y : ℕ). byte_of x y (pred_low t false)) (via_at t false h) (via_at t true h)

  -- one row more
  pub rows_more : (ps : List (List ℕ)) (k : ℕ) (row : List ℕ) → k < length ps → BytesTo X ps k → BytesAt X row k
      → BytesTo X (set ps k row) (suc k)
  rows_more ps k row h rows at = subst (λ (m : ℕ). BytesTo X (set ps k row) m) (add-one k) (set_next (λ (j : ℕ) (l : List ℕ). BytesAt X l j) [] ps k row h at rows)

-- after k steps
pub record Running (branch : ℕ → ℕ → Bool → ℕ) (start : List ℕ) (ps₀ ps : List (List ℕ)) (ms : List ℕ) (k : ℕ) : Type 0 where
  pub size : length ps ≡ length ps₀
  pub metrics : MetricsAt (engine branch start) ms k
  pub bytes : BytesTo (engine branch start) ps k
  pub rest : (j : ℕ) → k ≤ j → get_or ps j [] ≡ get_or ps₀ j []

pub running_none : (branch : ℕ → ℕ → Bool → ℕ) (start : List ℕ) (ps : List (List ℕ)) → Running branch start ps ps start 0
unfolding state_metric
running_none branch start ps = record { size = refl; metrics = λ t h. refl; bytes = λ j h. absurd (not-suc-le-zero h); rest = λ j h. refl }

module _ (rs : List (List ℕ)) (ss : List ℕ) where
  pub branch_le : Rows rs ss → (k s : ℕ) (b : Bool) → k < length ss → s < 32 → branch_by rs ss k s b ≤ 4
  unfolding branch_by
  branch_le c k s b hk hs = c.small (get_or ss k 0) (place_of s b) (c.symbol k hk) (place_below s b hs)

  module _ (start : List ℕ) (k x : ℕ) (ex : x ≡ get_or ss k 0) where
    pub fit : (ms : List ℕ) → Rows rs ss → Starts start → k ≤ 130 → k < length ss → MetricsAt (engine (branch_by rs ss) start) ms k → Fit ms (get_or rs x [])
    fit ms c sm hk hl hm i j hi hj =
        let a : get_or ms i 0 ≡ state_metric wholes (engine (branch_by rs ss) start) k i = hm i hi in
        let b : state_metric wholes (engine (branch_by rs ss) start) k i ≤ 1000 + k * 4 =
        opt.metric_bound (engine (branch_by rs ss) start) (length ss) 1000 4 register_low_lem.pred_below sm
        (λ k t b hk ht. branch_le c k (pred_low t b) (bit t) hk (register_low_lem.pred_below t b ht)) k i (omega arith) hi in
        let e : get_or (get_or rs x []) j 0 ≤ 4 = c.small x j (omega (arith, c.symbol k hl)) hj in
        omega arith

    row_at : (t : ℕ) (b : Bool) → t < 32 → get_or (get_or rs x []) (place_of (pred_low t b) (bit t)) 0 ≡ branch_by rs ss k (pred_low t b) (bit t)
    unfolding branch_by
    row_at t b h = ap (λ (i : ℕ). get_or (get_or rs i []) (place_of (pred_low t b) (bit t)) 0) ex

    -- one step more
    pub running_more : (ps₀ ps : List (List ℕ)) (ms : List ℕ) (r : Column (List ℕ)) → Running (branch_by rs ss) start ps₀ ps ms k → k < length ps₀
        → Advanced ms (get_or rs x []) r → Running (branch_by rs ss) start ps₀ (set ps k r.predecessors) r.metrics (k + 1)
    running_more ps₀ ps ms r i h adv =
        let size : length ps ≡ length ps₀ = i.size in
        subst (λ (j : ℕ). Running (branch_by rs ss) start ps₀ (set ps k r.predecessors) r.metrics j) (sym (add-one k))
        (record {
          size = length-set ps k r.predecessors ∙ i.size;
          metrics = step_metrics (branch_by rs ss) start ms (get_or rs x []) k i.metrics row_at r adv;
          bytes = rows_more (branch_by rs ss) start ps k r.predecessors (omega arith) i.bytes
              (step_row (branch_by rs ss) start ms (get_or rs x []) k i.metrics row_at r adv);
          rest = λ j l. get_or-set_other ps k j r.predecessors [] (λ e. omega arith) ∙ i.rest j (omega arith);
        })
