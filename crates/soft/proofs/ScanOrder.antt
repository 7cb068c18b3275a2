-- A step of the Rust's loops, states ascending and for each the inputs 0 and 1, keeps for each state the better of its two predecessors' offers:
-- no other state leads there. Assumes nothing.
use mathlib.Core.Path.{◌≡◌, refl, sym, ap, ap₂, ◌∙◌, subst}
use mathlib.Core.Logic.{◌⊎◌, inl, inr}
use mathlib.Core.Bool.{Bool, true, false, ◌&&◌, cond, true≢false, false≢true}
use Prim.Native.Nat.{ℕ, zero, suc, ◌+◌, ◌≤◌, ◌<◌}
use native.Mathlib.Nat.{le_refl, eq-or-lt_of_le, le_of_suc-le-suc}
use native.Mathlib.Numerals.{add-one}
use native.Mathlib.Omega.{arith}
use lib.Ieee.{Float, inf, binary64, add, lt}
use borrow.Author.Tests.{eq-eqb, ne_eqb}
use Rattle.trellis.specs.Numbering.{newest_high, pred_high}
use Rattle.trellis.proofs.Registers.{register_high_lem}
use Rattle.soft.specs.Reliability.{is_finite}
use Rattle.soft.specs.RustOrder.{Stored, written, offer, extend, scan}

-- ---- one offer
abbrev taken : ℕ → ℕ → Float → Stored → Stored
taken state next c kept = record { metric = written kept.metric next c; from = written kept.from next state }

offer_here : (state s : ℕ) (c : Float) (kept : Stored)
    → ((offer state s c kept).metric s ≡ cond (lt c (kept.metric s)) c (kept.metric s)) × ((offer state s c kept).from s ≡ cond (lt c (kept.metric s)) state (kept.from s))
unfolding offer
offer_here state s c kept = go (lt c (kept.metric s))
  where
    go : (v : Bool) → ((cond v (taken state s c kept) kept).metric s ≡ cond v c (kept.metric s)) × ((cond v (taken state s c kept) kept).from s ≡ cond v state (kept.from s))
    go true = (rw (eq-eqb s s refl), rw (eq-eqb s s refl))
    go false = (refl, refl)

offer_elsewhere : (state next s : ℕ) (c : Float) (kept : Stored) → (s ≡ next → ⊥) → ((offer state next c kept).metric s ≡ kept.metric s) × ((offer state next c kept).from s ≡ kept.from s)
unfolding offer
offer_elsewhere state next s c kept n = go (lt c (kept.metric next))
  where
    go : (v : Bool) → ((cond v (taken state next c kept) kept).metric s ≡ kept.metric s) × ((cond v (taken state next c kept) kept).from s ≡ kept.from s)
    go true = (rw (ne_eqb s next n), rw (ne_eqb s next n))
    go false = (refl, refl)

-- ---- what is kept for a state
abbrev pub displaces : Float → Float → Float → Bool
displaces kept m d = is_finite m && lt (add binary64 m d) kept

-- once the lower predecessor has been tried
abbrev pub kept_first : Float → Float → Float
kept_first m d = cond (displaces (inf false) m d) (add binary64 m d) (inf false)

module _ (m : ℕ → Float) (dist : ℕ → Bool → Float) (s : ℕ) where
  -- the distance into s from its predecessor b
  abbrev pub dist_into : Bool → Float
  dist_into b = dist (pred_high s b) (newest_high.newest s)

  abbrev pub upper_wins : Bool
  upper_wins = displaces (kept_first (m (pred_high s false)) (dist_into false)) (m (pred_high s true)) (dist_into true)

  abbrev pub next_metric : Float
  next_metric = cond upper_wins (add binary64 (m (pred_high s true)) (dist_into true)) (kept_first (m (pred_high s false)) (dist_into false))

  abbrev pub next_from : ℕ
  next_from = cond upper_wins (pred_high s true) (cond (displaces (inf false) (m (pred_high s false)) (dist_into false)) (pred_high s false) 0)

module _ (m : ℕ → Float) (dist : ℕ → Bool → Float) (s : ℕ) (hs : s < 32) where
  abbrev Same : Stored → Stored → Type 0
  Same a b = (a.metric s ≡ b.metric s) × (a.from s ≡ b.from s)

  extend_elsewhere : (k : ℕ) (b : Bool) (kept : Stored) → (newest_high.next k b ≡ s → ⊥) → Same (extend m dist k b kept) kept
  extend_elsewhere k b kept n = offer_elsewhere k (newest_high.next k b) s (add binary64 (m k) (dist k b)) kept (λ e. n (sym e))

  -- a state that leads elsewhere
  misses : (k : ℕ) → ((b : Bool) → newest_high.next k b ≡ s → ⊥) → Same (scan m dist (suc k)) (scan m dist k)
  unfolding scan
  misses k n = go (is_finite (m k))
    where
      go : (v : Bool) → Same (cond v (extend m dist k true (extend m dist k false (scan m dist k))) (scan m dist k)) (scan m dist k)
      go true =
          let a = extend_elsewhere k false (scan m dist k) (n false) in
          let b = extend_elsewhere k true (extend m dist k false (scan m dist k)) (n true) in
          (b.0 ∙ a.0, b.1 ∙ a.1)
      go false = (refl, refl)

  -- a state that leads to s by the input b alone
  abbrev Offered : ℕ → Bool → Stored → Stored → Type 0
  Offered k b kept now =
      (now.metric s ≡ cond (lt (add binary64 (m k) (dist k b)) (kept.metric s)) (add binary64 (m k) (dist k b)) (kept.metric s))
      × (now.from s ≡ cond (lt (add binary64 (m k) (dist k b)) (kept.metric s)) k (kept.from s))

  extend_here : (k : ℕ) (b : Bool) (kept : Stored) → newest_high.next k b ≡ s → Offered k b kept (extend m dist k b kept)
  extend_here k b kept e =
      subst (λ (t : ℕ). Offered k b kept (offer k t (add binary64 (m k) (dist k b)) kept)) (sym e) (offer_here k s (add binary64 (m k) (dist k b)) kept)

  both_inputs : (k : ℕ) (b : Bool) (kept : Stored) → newest_high.next k b ≡ s → ((d : Bool) → (d ≡ b → ⊥) → newest_high.next k d ≡ s → ⊥)
      → Offered k b kept (extend m dist k true (extend m dist k false kept))
  both_inputs k false kept e n =
      let a = extend_here k false kept e in
      let o = extend_elsewhere k true (extend m dist k false kept) (n true true≢false) in
      (o.0 ∙ a.0, o.1 ∙ a.1)
  both_inputs k true kept e n =
      let o = extend_elsewhere k false kept (n false false≢true) in
      let a = extend_here k true (extend m dist k false kept) e in
      let c : Float = add binary64 (m k) (dist k true) in
      (a.0 ∙ ap (λ (x : Float). cond (lt c x) c x) o.0, a.1 ∙ ap₂ (λ (x : Float) (f : ℕ). cond (lt c x) k f) o.0 o.1)

  -- after the state j, the k-th, has offered
  abbrev Tried : ℕ → ℕ → Type 0
  Tried k j =
      ((scan m dist (suc k)).metric s
      ≡ cond (displaces ((scan m dist k).metric s) (m j) (dist j (newest_high.newest s))) (add binary64 (m j) (dist j (newest_high.newest s))) ((scan m dist k).metric s))
      × ((scan m dist (suc k)).from s ≡ cond (displaces ((scan m dist k).metric s) (m j) (dist j (newest_high.newest s))) j ((scan m dist k).from s))

  tried : (k : ℕ) → k < 32 → newest_high.next k (newest_high.newest s) ≡ s → Tried k k
  unfolding scan
  tried k hk e = go (is_finite (m k))
    where
      n : Bool
      n = newest_high.newest s

      other : (d : Bool) → (d ≡ n → ⊥) → newest_high.next k d ≡ s → ⊥
      other d x q = x (sym (register_high_lem.newest_next k d hk) ∙ ap newest_high.newest q)

      go : (v : Bool)
          → ((cond v (extend m dist k true (extend m dist k false (scan m dist k))) (scan m dist k)).metric s
          ≡ cond (v && lt (add binary64 (m k) (dist k (newest_high.newest s))) ((scan m dist k).metric s)) (add binary64 (m k) (dist k (newest_high.newest s))) ((scan m dist k).metric s))
          × ((cond v (extend m dist k true (extend m dist k false (scan m dist k))) (scan m dist k)).from s
          ≡ cond (v && lt (add binary64 (m k) (dist k (newest_high.newest s))) ((scan m dist k).metric s)) k ((scan m dist k).from s))
      go true = both_inputs k (newest_high.newest s) (scan m dist k) e other
      go false = (refl, refl)

  -- no other state leads to s
  passes : (k : ℕ) → k < 32 → (k < pred_high s false) ⊎ (pred_high s false + 1 < k) → Same (scan m dist (suc k)) (scan m dist k)
  passes k hk o = misses k (λ b e. no (newest_high.oldest k) (ap (λ (t : ℕ). pred_high t (newest_high.oldest k)) (sym e) ∙ register_high_lem.pred_next k b hk) o)
    where
      no : (d : Bool) → pred_high s d ≡ k → (k < pred_high s false) ⊎ (pred_high s false + 1 < k) → ⊥
      no false e (inl g) = omega arith
      no false e (inr g) = omega arith
      no true e (inl g) = omega arith
      no true e (inr g) = omega arith

  untouched : (k : ℕ) → k ≤ pred_high s false → ((scan m dist k).metric s ≡ inf false) × ((scan m dist k).from s ≡ 0)
  untouched zero l = unfold scan in (refl, refl)
  untouched (suc k) l =
      let p = passes k (omega arith) (inl l) in
      let u = untouched k (omega arith) in
      (p.0 ∙ u.0, p.1 ∙ u.1)

  settled : ((scan m dist (suc (suc (pred_high s false)))).metric s ≡ next_metric m dist s) × ((scan m dist (suc (suc (pred_high s false)))).from s ≡ next_from m dist s)
  settled =
      let p : ℕ = pred_high s false in
      let e : p + 1 ≡ suc p = add-one p in
      let u = untouched p (le_refl p) in
      let a = tried p (omega arith) (register_high_lem.next_pred s false hs) in
      let c = tried (suc p) (omega arith) (ap (λ (k : ℕ). newest_high.next k (newest_high.newest s)) (sym e) ∙ register_high_lem.next_pred s true hs) in
      let b : Tried (suc p) (p + 1) = subst (Tried (suc p)) (sym e) c in
      (cc, cc)

  finished : (k : ℕ) → k ≤ 32 → suc (suc (pred_high s false)) ≤ k → ((scan m dist k).metric s ≡ next_metric m dist s) × ((scan m dist k).from s ≡ next_from m dist s)
  finished zero i l = absurd (omega arith)
  finished (suc k) i l =
      elim (eq-or-lt_of_le l) [
        | inl e ↦ subst (λ (x : ℕ). ((scan m dist x).metric s ≡ next_metric m dist s) × ((scan m dist x).from s ≡ next_from m dist s)) e settled
        | inr g ↦
            let p = passes k i (inr (omega arith)) in
            let f = finished k (omega arith) (le_of_suc-le-suc g) in
            (p.0 ∙ f.0, p.1 ∙ f.1)
      ]

  pub scan_is_next : ((scan m dist 32).metric s ≡ next_metric m dist s) × ((scan m dist 32).from s ≡ next_from m dist s)
  scan_is_next = finished 32 (le_refl 32) (omega arith)
