-- The forward recursion finds the least cost, the first path that has it, and whether another has it. Assumes nothing.
use mathlib.Core.Path.{◌≡◌, refl, sym, ap, subst, ◌∙◌}
use mathlib.Core.Bool.{Bool, true, false, cond}
use mathlib.Core.List.{List, [], ◌∷◌}
use Prim.Native.Nat.{ℕ, zero, suc, ◌+◌, ◌*◌, ◌≤◌, ◌<◌}
use native.Mathlib.Omega.{arith}
use native.Mathlib.Nat.{le_refl, suc-mul}
use native.Mathlib.Decide.{ℕ_discrete}
use lib.Dec.{T, ltb, leb}
use lib.ListN.{length}
use borrow.Author.Tests.{ltb-true, ltb-false, leb-true, le-leb, lt-leb, eq-eqb, ne_eqb}
use Rattle.trellis.specs.Search.{Precedes}
use Rattle.trellis.specs.Trellis.{Trellis, wholes, predecessor, branch_into, DifferAfter, TiedPaths, path_metric, state_metric, candidate, decision, survivor, tie}

-- the cheaper of two costs costs no more than either
pub pick_le : (f : Bool → ℕ) (b : Bool) → f (ltb (f true) (f false)) ≤ f b
pick_le f b = go (ltb (f true) (f false)) refl b
  where
    go : (d : Bool) → ltb (f true) (f false) ≡ d → (b : Bool) → f d ≤ f b
    go false e false = le_refl _
    go false e true = ltb-false (f true) (f false) e
    go true e false = let h : f true < f false = ltb-true (f true) (f false) e in omega arith
    go true e true = le_refl _

-- a choice of the least cost is not before the one made
pub pick_first : (f : Bool → ℕ) → f false ≡ f (ltb (f true) (f false)) → ltb (f true) (f false) ≡ false
pick_first f q = go (ltb (f true) (f false)) refl
  where
    go : (d : Bool) → ltb (f true) (f false) ≡ d → d ≡ false
    go false e = refl
    go true e =
        let h : f true < f false = ltb-true (f true) (f false) e in
        let q' : f false ≡ f true = q ∙ ap f e in
        let z : ⊥ = omega arith in
        absurd z

cond_at : (f : Bool → ℕ) (d : Bool) → cond d (f true) (f false) ≡ f d
cond_at f false = refl
cond_at f true = refl

-- ---- choices that differ
pub differ_since : (since : ℕ) (u w : List Bool) → DifferAfter since u w → since < length u
differ_since since [] w h = absurd h
differ_since since (false ∷ u) [] h = absurd h
differ_since since (true ∷ u) [] h = absurd h
differ_since since (false ∷ u) (false ∷ w) h = let k : since < length u = differ_since since u w h in omega arith
differ_since since (false ∷ u) (true ∷ w) h = omega arith
differ_since since (true ∷ u) (false ∷ w) h = omega arith
differ_since since (true ∷ u) (true ∷ w) h = let k : since < length u = differ_since since u w h in omega arith

pub differ_cons : (since : ℕ) (b : Bool) (u w : List Bool) → DifferAfter since u w → DifferAfter since (b ∷ u) (b ∷ w)
differ_cons since false u w h = h
differ_cons since true u w h = h

pub differ_tail : (since : ℕ) (b : Bool) (u w : List Bool) → DifferAfter since (b ∷ u) (b ∷ w) → DifferAfter since u w
differ_tail since false u w h = h
differ_tail since true u w h = h

module _ (X : Trellis ℕ) where
  pub metric_step : (n t : ℕ) → state_metric wholes X (suc n) t ≡ candidate wholes X n t (decision wholes X n t)
  unfolding state_metric
  metric_step n t = cond_at (candidate wholes X n t) (decision wholes X n t)

  pub metric_le_candidate : (n t : ℕ) (b : Bool) → state_metric wholes X (suc n) t ≤ candidate wholes X n t b
  metric_le_candidate n t b =
      subst (λ (m : ℕ). m ≤ candidate wholes X n t b) (sym (metric_step n t)) (pick_le (candidate wholes X n t) b)

  -- a bound on the metrics from bounds on the costs
  pub metric_bound : (steps a d : ℕ) → ((t : ℕ) (b : Bool) → t < 32 → predecessor X t b < 32) → ((s : ℕ) → s < 32 → X.start s ≤ a)
      → ((k t : ℕ) (b : Bool) → k < steps → t < 32 → branch_into X k t b ≤ d) → (n t : ℕ) → n ≤ steps → t < 32 → state_metric wholes X n t ≤ a + n * d
  unfolding state_metric
  metric_bound steps a d hp ha hd zero t hn ht = let h : X.start t ≤ a = ha t ht in omega arith
  metric_bound steps a d hp ha hd (suc n) t hn ht =
      let h : state_metric wholes X (suc n) t ≤ candidate wholes X n t false = metric_le_candidate n t false in
      let i : state_metric wholes X n (predecessor X t false) ≤ a + n * d = metric_bound steps a d hp ha hd n (predecessor X t false) (omega arith) (hp t false ht) in
      let j : branch_into X n t false ≤ d = hd n t false hn ht in
      let e : suc n * d ≡ n * d + d = suc-mul n d in
      omega arith

  -- no path costs less than the metric
  pub least : (t : ℕ) (w : List Bool) → state_metric wholes X (length w) t ≤ path_metric X t w
  unfolding path_metric state_metric
  least t [] = le_refl _
  least t (b ∷ w) =
      let h : state_metric wholes X (length w) (predecessor X t b) ≤ path_metric X (predecessor X t b) w = least (predecessor X t b) w in
      let k : state_metric wholes X (suc (length w)) t ≤ candidate wholes X (length w) t b = metric_le_candidate (length w) t b in
      omega arith

  pub survivor-length : (n t : ℕ) → length (survivor wholes X n t) ≡ n
  unfolding survivor
  survivor-length zero t = refl
  survivor-length (suc n) t = ap suc (survivor-length n (predecessor X t (decision wholes X n t)))

  -- the survivor's cost is the metric
  pub survivor_cost : (n t : ℕ) → path_metric X t (survivor wholes X n t) ≡ state_metric wholes X n t
  unfolding survivor path_metric state_metric
  survivor_cost zero t = refl
  survivor_cost (suc n) t =
      let d : Bool = decision wholes X n t in
      let s : List Bool = survivor wholes X n (predecessor X t d) in
      let h : path_metric X (predecessor X t d) s ≡ state_metric wholes X n (predecessor X t d) = survivor_cost n (predecessor X t d) in
      let l : length s ≡ n = survivor-length n (predecessor X t d) in
      ap (λ (m : ℕ). m + branch_into X (length s) t d) h ∙ ap (λ (k : ℕ). state_metric wholes X n (predecessor X t d) + branch_into X k t d) l ∙ sym (metric_step n t)

  -- a path of the least cost has a least-cost tail, and goes through a predecessor that gives the metric
  pub tail_least : (t : ℕ) (b : Bool) (w : List Bool) → path_metric X t (b ∷ w) ≡ state_metric wholes X (suc (length w)) t
      → (path_metric X (predecessor X t b) w ≡ state_metric wholes X (length w) (predecessor X t b))
      × (candidate wholes X (length w) t b ≡ state_metric wholes X (suc (length w)) t)
  unfolding path_metric
  tail_least t b w e =
      let h : state_metric wholes X (length w) (predecessor X t b) ≤ path_metric X (predecessor X t b) w = least (predecessor X t b) w in
      let k : state_metric wholes X (suc (length w)) t ≤ candidate wholes X (length w) t b = metric_le_candidate (length w) t b in
      (omega arith, omega arith)

  -- one step: the choice made, d, against a choice b that gives the metric
  first_step : (n t : ℕ) (w : List Bool) (d : Bool) → decision wholes X n t ≡ d → (b : Bool)
      → candidate wholes X n t b ≡ state_metric wholes X (suc n) t
      → Precedes (survivor wholes X n (predecessor X t b)) w → Precedes (d ∷ survivor wholes X n (predecessor X t d)) (b ∷ w)
  first_step n t w false p false e h = h
  first_step n t w false p true e h = tt
  first_step n t w true p false e h =
      let q : decision wholes X n t ≡ false = pick_first (candidate wholes X n t) (e ∙ metric_step n t) in
      let z : ◌≡◌ {A = Bool} true false = sym p ∙ q in
      subst T z tt
  first_step n t w true p true e h = h

  -- the survivor is the first of the paths of the least cost
  pub first : (t : ℕ) (w : List Bool) → path_metric X t w ≡ state_metric wholes X (length w) t
      → Precedes (survivor wholes X (length w) t) w
  unfolding survivor
  first t [] e = tt
  first t (b ∷ w) e =
      let both : (path_metric X (predecessor X t b) w ≡ state_metric wholes X (length w) (predecessor X t b))
      × (candidate wholes X (length w) t b ≡ state_metric wholes X (suc (length w)) t) = tail_least t b w e in
      first_step (length w) t w (decision wholes X (length w) t) refl b both.1 (first (predecessor X t b) w both.0)

  -- where one predecessor gives less, a path of the least cost goes through the one chosen
  chosen : (n t : ℕ) → (candidate wholes X n t false ≡ candidate wholes X n t true → ⊥) → (b : Bool)
      → candidate wholes X n t b ≡ state_metric wholes X (suc n) t → b ≡ decision wholes X n t
  chosen n t ne b e = go b (decision wholes X n t) (e ∙ metric_step n t)
    where
      go : (b d : Bool) → candidate wholes X n t b ≡ candidate wholes X n t d → b ≡ d
      go false false q = refl
      go false true q = absurd (ne q)
      go true false q = absurd (ne (sym q))
      go true true q = refl

  pub tie_even : (since n t : ℕ) → candidate wholes X n t false ≡ candidate wholes X n t true → tie X since (suc n) t ≡ leb since n
  unfolding tie
  tie_even since n t e = rw (eq-eqb (candidate wholes X n t false) (candidate wholes X n t true) e)

  cond_tie : (since n t : ℕ) (d : Bool)
      → cond d (tie X since n (predecessor X t true)) (tie X since n (predecessor X t false)) ≡ tie X since n (predecessor X t d)
  cond_tie since n t false = refl
  cond_tie since n t true = refl

  pub tie_odd : (since n t : ℕ) → (candidate wholes X n t false ≡ candidate wholes X n t true → ⊥)
      → tie X since (suc n) t ≡ tie X since n (predecessor X t (decision wholes X n t))
  unfolding tie
  tie_odd since n t ne = rw (ne_eqb (candidate wholes X n t false) (candidate wholes X n t true) ne) (cond_tie since n t (decision wholes X n t))

  -- no tie counts before `since`
  pub tie_early : (since n t : ℕ) → n ≤ since → tie X since n t ≡ false
  unfolding tie
  tie_early since zero t h = refl
  tie_early since (suc n) t h = go (ℕ_discrete (candidate wholes X n t false) (candidate wholes X n t true)) (tie_early since n (predecessor X t (decision wholes X n t)) (omega arith))
    where
      go : Dec (candidate wholes X n t false ≡ candidate wholes X n t true) → tie X since n (predecessor X t (decision wholes X n t)) ≡ false
          → tie X since (suc n) t ≡ false
      go (yes e) ih = tie_even since n t e ∙ lt-leb since n h
      go (no ne) ih = tie_odd since n t ne ∙ ih

  -- a survivor with one choice more in front
  longer : (n t : ℕ) (b : Bool) (w : List Bool) → length w ≡ n → path_metric X (predecessor X t b) w ≡ state_metric wholes X n (predecessor X t b)
      → candidate wholes X n t b ≡ state_metric wholes X (suc n) t → path_metric X t (b ∷ w) ≡ state_metric wholes X (suc n) t
  unfolding path_metric
  longer n t b w l e v =
      ap (λ (m : ℕ). m + branch_into X (length w) t b) e ∙ ap (λ (k : ℕ). state_metric wholes X n (predecessor X t b) + branch_into X k t b) l ∙ v

  even_either : (n t : ℕ) → candidate wholes X n t false ≡ candidate wholes X n t true → (b : Bool)
      → candidate wholes X n t b ≡ state_metric wholes X (suc n) t
  even_either n t e b = go b (decision wholes X n t) ∙ sym (metric_step n t)
    where
      go : (b d : Bool) → candidate wholes X n t b ≡ candidate wholes X n t d
      go false false = refl
      go false true = e
      go true false = sym e
      go true true = refl

  -- equal at the last step: the two survivors
  tied_even : (since n t : ℕ) → candidate wholes X n t false ≡ candidate wholes X n t true → since ≤ n → TiedPaths X since (suc n) t
  tied_even since n t e h =
      record {
        one = false ∷ survivor wholes X n (predecessor X t false);
        other = true ∷ survivor wholes X n (predecessor X t true);
        one_length = ap suc (survivor-length n (predecessor X t false));
        other_length = ap suc (survivor-length n (predecessor X t true));
        one_least = longer n t false _ (survivor-length n (predecessor X t false)) (survivor_cost n (predecessor X t false)) (even_either n t e false);
        other_least = longer n t true _ (survivor-length n (predecessor X t true)) (survivor_cost n (predecessor X t true)) (even_either n t e true);
        distinct = subst (λ (k : ℕ). since ≤ k) (sym (survivor-length n (predecessor X t false))) h;
      }

  -- two paths into a predecessor that gives the metric, each with the step from it
  tied_longer : (since n t : ℕ) (b : Bool) → candidate wholes X n t b ≡ state_metric wholes X (suc n) t
      → TiedPaths X since n (predecessor X t b) → TiedPaths X since (suc n) t
  tied_longer since n t b v r =
      record {
        one = b ∷ r.one;
        other = b ∷ r.other;
        one_length = ap suc r.one_length;
        other_length = ap suc r.other_length;
        one_least = longer n t b r.one r.one_length r.one_least v;
        other_least = longer n t b r.other r.other_length r.other_least v;
        distinct = differ_cons since b r.one r.other r.distinct;
      }

  -- a tie: two such paths
  pub tie_sound : (since n t : ℕ) → tie X since n t ≡ true → TiedPaths X since n t
  unfolding tie
  tie_sound since zero t h = absurd (subst T (sym h) tt)
  tie_sound since (suc n) t h = go (ℕ_discrete (candidate wholes X n t false) (candidate wholes X n t true)) (tie_sound since n (predecessor X t (decision wholes X n t)))
    where
      go : Dec (candidate wholes X n t false ≡ candidate wholes X n t true)
          → (tie X since n (predecessor X t (decision wholes X n t)) ≡ true → TiedPaths X since n (predecessor X t (decision wholes X n t)))
          → TiedPaths X since (suc n) t
      go (yes e) ih = tied_even since n t e (leb-true since n (sym (tie_even since n t e) ∙ h))
      go (no ne) ih = tied_longer since n t (decision wholes X n t) (sym (metric_step n t)) (ih (sym (tie_odd since n t ne) ∙ h))

  -- one step of the converse
  tie_step : (since t : ℕ) (x y : Bool) (u w : List Bool) → length w ≡ length u
      → path_metric X t (x ∷ u) ≡ state_metric wholes X (suc (length u)) t
      → path_metric X t (y ∷ w) ≡ state_metric wholes X (suc (length u)) t → DifferAfter since (x ∷ u) (y ∷ w)
      → Dec (candidate wholes X (length u) t false ≡ candidate wholes X (length u) t true)
      → (length w ≡ length u → path_metric X (predecessor X t x) u ≡ state_metric wholes X (length u) (predecessor X t x)
      → path_metric X (predecessor X t x) w ≡ state_metric wholes X (length u) (predecessor X t x) → DifferAfter since u w
      → tie X since (length u) (predecessor X t x) ≡ true)
      → tie X since (suc (length u)) t ≡ true
  tie_step since t x y u w l p q a (yes e) ih =
      let h : since < suc (length u) = differ_since since (x ∷ u) (y ∷ w) a in
      tie_even since (length u) t e ∙ le-leb since (length u) (omega arith)
  tie_step since t x y u w l p q a (no ne) ih =
      let n : ℕ = length u in
      let q' : path_metric X t (y ∷ w) ≡ state_metric wholes X (suc (length w)) t = q ∙ ap (λ (k : ℕ). state_metric wholes X (suc k) t) (sym l) in
      let us : (path_metric X (predecessor X t x) u ≡ state_metric wholes X n (predecessor X t x)) × (candidate wholes X n t x ≡ state_metric wholes X (suc n) t) = tail_least t x u p in
      let ws : (path_metric X (predecessor X t y) w ≡ state_metric wholes X (length w) (predecessor X t y)) × (candidate wholes X (length w) t y ≡ state_metric wholes X (suc (length w)) t) = tail_least t y w q' in
      let ex : x ≡ decision wholes X n t = chosen n t ne x us.1 in
      let ey : y ≡ decision wholes X n t = chosen n t ne y (subst (λ (k : ℕ). candidate wholes X k t y ≡ state_metric wholes X (suc k) t) l ws.1) in
      let yx : y ≡ x = ey ∙ sym ex in
      let cw : path_metric X (predecessor X t x) w ≡ state_metric wholes X n (predecessor X t x) =
      subst (λ (z : Bool). path_metric X (predecessor X t z) w ≡ state_metric wholes X n (predecessor X t z)) yx
      (subst (λ (k : ℕ). path_metric X (predecessor X t y) w ≡ state_metric wholes X k (predecessor X t y)) l ws.0) in
      let a' : DifferAfter since u w = differ_tail since x u w (subst (λ (z : Bool). DifferAfter since (x ∷ u) (z ∷ w)) yx a) in
      tie_odd since n t ne ∙ ap (λ (z : Bool). tie X since n (predecessor X t z)) (sym ex) ∙ ih l us.0 cw a'

  -- two such paths: a tie
  pub tie-complete : (since : ℕ) (t : ℕ) (u w : List Bool) → length w ≡ length u → path_metric X t u ≡ state_metric wholes X (length u) t
      → path_metric X t w ≡ state_metric wholes X (length u) t → DifferAfter since u w → tie X since (length u) t ≡ true
  tie-complete since t [] w l p q a = absurd a
  tie-complete since t (x ∷ u) [] l p q a = let z : ⊥ = omega arith in absurd z
  tie-complete since t (x ∷ u) (y ∷ w) l p q a =
      tie_step since t x y u w (omega arith) p q a (ℕ_discrete (candidate wholes X (length u) t false) (candidate wholes X (length u) t true))
      (tie-complete since (predecessor X t x) u w)
