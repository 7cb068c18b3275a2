-- A search whose costs count as whole numbers do below `far`, with one cost for all from `far` on, has the whole-number survivors. Assumes nothing.
use mathlib.Core.Path.{◌≡◌, refl, sym, ap, ap₂, subst, ◌∙◌}
use mathlib.Core.Bool.{Bool, true, false, cond}
use mathlib.Core.List.{List, ◌∷◌}
use mathlib.Core.Logic.{◌⊎◌, inl, inr}
use Prim.Native.Nat.{ℕ, zero, suc, ◌+◌, ◌*◌, ◌≤◌, ◌<◌}
use native.Mathlib.Nat.{suc-mul, zero-mul, mul-le-mul_right}
use native.Mathlib.Omega.{arith}
use lib.Dec.{ltb}
use borrow.Author.Tests.{lt-ltb, le-ltb}
use Rattle.trellis.specs.Numbering.{Numbering}
use Rattle.trellis.specs.Trellis.{Trellis, Costs, wholes, state_metric, candidate, decision, survivor}
use Rattle.trellis.proofs.Registers.{Register}
use Rattle.trellis.proofs.Optimal as opt

-- h writes a whole number below `far`, and `unreachable` stands for all others
pub record Counts {C : Type 0} (K : Costs C) (far : ℕ) (h : ℕ → C) (unreachable : C) : Type 0 where
  pub plus_at : (a d : ℕ) → a + d < far → K.plus (h a) (h d) ≡ h (a + d)
  pub plus_unreachable : (d : ℕ) → d < far → K.plus unreachable (h d) ≡ unreachable
  pub less_at : (a b : ℕ) → a < far → b < far → K.less (h a) (h b) ≡ ltb a b
  pub less_unreachable : (a : ℕ) → a < far → K.less (h a) unreachable ≡ true
  pub unreachable_less : (a : ℕ) → a < far → K.less unreachable (h a) ≡ false

-- the cost x stands for the whole number m, which is at most b or at least `far`
abbrev pub Stands : {C : Type 0} → (ℕ → C) → C → ℕ → ℕ → C → ℕ → Type 0
Stands h unreachable far b x m = ((m ≤ b) × (x ≡ h m)) ⊎ ((far ≤ m) × (x ≡ unreachable))

-- the trellis over C stands for the one over whole numbers, in its first n steps
pub record Embeds {C : Type 0} (h : ℕ → C) (unreachable : C) (far n d : ℕ) (Y : Trellis C) (X : Trellis ℕ) : Type 0 where
  pub starts : (s : ℕ) → s < 32 → Stands h unreachable far 0 (Y.start s) (X.start s)
  pub branches : (k s : ℕ) (b : Bool) → k < n → s < 32 → Y.branch k s b ≡ h (X.branch k s b)
  pub cheap : (k s : ℕ) (b : Bool) → k < n → s < 32 → X.branch k s b ≤ d
  pub room : n * d < far

module _ {C : Type 0} (K : Costs C) (far : ℕ) (h : ℕ → C) (u : C) (E : Counts K far h u) where
  -- one candidate
  add : (b d e : ℕ) (x : C) (m : ℕ) → b + d < far → e ≤ d → Stands h u far b x m → Stands h u far (b + d) (K.plus x (h e)) (m + e)
  add b d e x m r l (inl p) =
      let q : m ≤ b = p.0 in
      inl (omega arith, ap (λ (y : C). K.plus y (h e)) p.1 ∙ E.plus_at m e (omega arith))
  add b d e x m r l (inr p) =
      let q : far ≤ m = p.0 in
      inr (omega arith, ap (λ (y : C). K.plus y (h e)) p.1 ∙ E.plus_unreachable e (omega arith))

  -- the decision agrees, unless both candidates are unreachable
  module _ (b : ℕ) (r : b < far) (x y : C) (l m : ℕ) where
    compare : Stands h u far b x l → Stands h u far b y m → (K.less y x ≡ ltb m l) ⊎ ((far ≤ l) × (far ≤ m))
    compare (inl p) (inl q) = inl (ap₂ K.less q.1 p.1 ∙ E.less_at m l (omega (arith, q.0)) (omega (arith, p.0)))
    compare (inl p) (inr q) =
        inl (ap₂ K.less q.1 p.1 ∙ E.unreachable_less l (omega (arith, p.0)) ∙ sym (le-ltb m l (omega (arith, p.0, q.0))))
    compare (inr p) (inl q) =
        inl (ap₂ K.less q.1 p.1 ∙ E.less_unreachable m (omega (arith, q.0)) ∙ sym (lt-ltb m l (omega (arith, p.0, q.0))))
    compare (inr p) (inr q) = inr (p.0, q.0)

    choose : (v : Bool) → Stands h u far b x l → Stands h u far b y m → Stands h u far b (cond v y x) (cond v m l)
    choose true p q = q
    choose false p q = p

    far_stands : far ≤ l → Stands h u far b x l → x ≡ u
    far_stands f (inl p) = let z : ⊥ = omega (arith, p.0) in absurd z
    far_stands f (inr p) = p.1

    far_upper : far ≤ m → Stands h u far b y m → y ≡ u
    far_upper f (inl p) = let z : ⊥ = omega (arith, p.0) in absurd z
    far_upper f (inr p) = p.1

    -- the survivor's metric
    select : Stands h u far b x l → Stands h u far b y m → Stands h u far b (cond (K.less y x) y x) (cond (ltb m l) m l)
    select p q = go (compare p q)
      where
        both : (v w : Bool) → far ≤ l → far ≤ m → Stands h u far b (cond v y x) (cond w m l)
        both true true f g = inr (g, far_upper g q)
        both true false f g = inr (f, far_upper g q)
        both false true f g = inr (g, far_stands f p)
        both false false f g = inr (f, far_stands f p)

        go : (K.less y x ≡ ltb m l) ⊎ ((far ≤ l) × (far ≤ m)) → Stands h u far b (cond (K.less y x) y x) (cond (ltb m l) m l)
        go (inl e) = subst (λ (v : Bool). Stands h u far b (cond v y x) (cond (ltb m l) m l)) (sym e) (choose (ltb m l) p q)
        go (inr f) = both (K.less y x) (ltb m l) f.0 f.1

  module _ (N : Numbering) (reg : Register N) (branch' : ℕ → ℕ → Bool → C) (start' : ℕ → C) (branch : ℕ → ℕ → Bool → ℕ) (start : ℕ → ℕ) (n d : ℕ)
      (emb : Embeds h u far n d (record { numbering = N; branch = branch'; start = start' }) (record { numbering = N; branch = branch; start = start })) where
    abbrev Y : Trellis C
    Y = record { numbering = N; branch = branch'; start = start' }

    abbrev X : Trellis ℕ
    X = record { numbering = N; branch = branch; start = start }

    room_at : (k : ℕ) → k < n → k * d + d < far
    room_at k hk =
        let a : suc k * d ≤ n * d = mul-le-mul_right d hk in
        omega (arith, suc-mul k d, emb.room)

    -- the candidate into t through its predecessor b, from what that predecessor's metric stands for
    add_branch : (k t : ℕ) (b : Bool) → k < n → t < 32 → Stands h u far (k * d) (state_metric K Y k (N.pred t b)) (state_metric wholes X k (N.pred t b))
        → Stands h u far (k * d + d) (candidate K Y k t b) (candidate wholes X k t b)
    add_branch k t b hk ht m =
        let p : ℕ = N.pred t b in
        let hp : p < 32 = reg.pred_below t b ht in
        subst (λ (y : C). Stands h u far (k * d + d) (K.plus (state_metric K Y k p) y) (candidate wholes X k t b)) (sym (emb.branches k p (N.newest t) hk hp))
        (add (k * d) d (branch k p (N.newest t)) (state_metric K Y k p) (state_metric wholes X k p) (room_at k hk) (emb.cheap k p (N.newest t) hk hp) m)

    metric_stands : (k t : ℕ) → k ≤ n → t < 32 → Stands h u far (k * d) (state_metric K Y k t) (state_metric wholes X k t)
    unfolding state_metric
    metric_stands zero t hk ht = subst (λ (b : ℕ). Stands h u far b (start' t) (start t)) (sym (zero-mul d)) (emb.starts t ht)
    metric_stands (suc k) t hk ht =
        subst (λ (b : ℕ). Stands h u far b (state_metric K Y (suc k) t) (state_metric wholes X (suc k) t)) (sym (suc-mul k d))
        (select (k * d + d) (room_at k hk) (candidate K Y k t false) (candidate K Y k t true) (candidate wholes X k t false) (candidate wholes X k t true)
        (add_branch k t false hk ht (metric_stands k (N.pred t false) (omega arith) (reg.pred_below t false ht)))
        (add_branch k t true hk ht (metric_stands k (N.pred t true) (omega arith) (reg.pred_below t true ht))))

    candidate-stands : (k t : ℕ) (b : Bool) → k < n → t < 32 → Stands h u far (k * d + d) (candidate K Y k t b) (candidate wholes X k t b)
    candidate-stands k t b hk ht = add_branch k t b hk ht (metric_stands k (N.pred t b) (omega arith) (reg.pred_below t b ht))

    -- a state that is reached has the whole-number decision
    pub decision_same : (k t : ℕ) → k < n → t < 32 → state_metric wholes X (suc k) t < far → decision K Y k t ≡ decision wholes X k t
    decision_same k t hk ht hf =
        go (compare (k * d + d) (room_at k hk) (candidate K Y k t false) (candidate K Y k t true) (candidate wholes X k t false) (candidate wholes X k t true)
        (candidate-stands k t false hk ht) (candidate-stands k t true hk ht))
      where
        none : (v : Bool) → far ≤ candidate wholes X k t false → far ≤ candidate wholes X k t true → far ≤ candidate wholes X k t v
        none true f g = g
        none false f g = f

        go : (decision K Y k t ≡ decision wholes X k t) ⊎ ((far ≤ candidate wholes X k t false) × (far ≤ candidate wholes X k t true)) → decision K Y k t ≡ decision wholes X k t
        go (inl e) = e
        go (inr f) = let z : ⊥ = omega (arith, none (decision wholes X k t) f.0 f.1, opt.metric_step X k t, hf) in absurd z

    -- and the whole-number survivor
    pub survivor_same : (k t : ℕ) → k ≤ n → t < 32 → state_metric wholes X k t < far → survivor K Y k t ≡ survivor wholes X k t
    unfolding survivor
    survivor_same zero t hk ht hf = refl
    survivor_same (suc k) t hk ht hf =
        let v : Bool = decision wholes X k t in
        let e : decision K Y k t ≡ v = decision_same k t hk ht hf in
        let m : state_metric wholes X k (N.pred t v) < far = omega (arith, opt.metric_step X k t, hf) in
        ap (λ (w : Bool). w ∷ survivor K Y k (N.pred t w)) e
        ∙ ap (λ (l : List Bool). v ∷ l) (survivor_same k (N.pred t v) (omega arith) (reg.pred_below t v ht) m)
