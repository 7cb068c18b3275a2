-- Only one list of codes is ascending and has all codes with words and no other; `lowest_first` is it where no code above 255 has words. Assumes nothing.
use mathlib.Core.Path.{◌≡◌, refl, sym, ap₂, subst}
use mathlib.Core.Logic.{◌≢◌, ⊎_elim}
use mathlib.Core.Bool.{Bool, true, false, cond}
use mathlib.Core.List.Memᴰ
use mathlib.Core.List.{List, [], ◌∷◌, ◌++◌, Memᴰ}
use Prim.Native.Nat.{ℕ, zero, suc, ◌<◌, ◌≤◌}
use native.Mathlib.Decide.{dec_lt, ℕ_discrete}
use native.Mathlib.Omega.{arith}
use borrow.Author.Tests.{eq-eqb, ne_eqb}
use lib.Dec.{eqb}
use Rattle.session.specs.CodeLines.{Ascending, CodeOrder}
use Rattle.session.specs.Totals.{lowest_first}

-- ---- ascending lists
abbrev In : ℕ → List ℕ → Type 0
In d codes = Memᴰ d codes

ascending_append : (us ws : List ℕ) → Ascending us → Ascending ws → ((u w : ℕ) → In u us → In w ws → u < w) → Ascending (us ++ ws)
ascending_append [] ws p q apart = q
ascending_append (u ∷ us) ws p q apart = (
  λ e m. ⊎_elim (p.0 e) (apart u e (Memᴰ.head refl)) (Memᴰ.append_cases us m),
  ascending_append us ws p.1 q (λ v w a b. apart v w (Memᴰ.tail a) b),
)

-- two that have the same codes begin with the same, and go on with the same codes
first_same : {u w : ℕ} {us ws : List ℕ} → Ascending (u ∷ us) → Ascending (w ∷ ws) → In u (w ∷ ws) → In w (u ∷ us) → u ≡ w
first_same {u} {w} p q a b =
    ⊎_elim (λ e. e)
    (λ m. ⊎_elim sym (λ k. let up = p.0 w k in let down = q.0 u m in omega arith) (Memᴰ.cases_cons b))
    (Memᴰ.cases_cons a)

rest_same : {u w : ℕ} {us ws : List ℕ} → Ascending (u ∷ us) → u ≡ w → ((d : ℕ) → In d (u ∷ us) → In d (w ∷ ws)) → (d : ℕ) → In d us → In d ws
rest_same p e f d m = ⊎_elim (λ g. let up = p.0 d m in let z : ⊥ = omega arith in absurd z) (λ k. k) (Memᴰ.cases_cons (f d (Memᴰ.tail m)))

same_list : (us ws : List ℕ) → Ascending us → Ascending ws → ((d : ℕ) → In d us → In d ws) → ((d : ℕ) → In d ws → In d us) → us ≡ ws
same_list [] [] p q f g = refl
same_list [] (w ∷ ws) p q f g = absurd (Memᴰ.not-nil (g w (Memᴰ.head refl)))
same_list (u ∷ us) [] p q f g = absurd (Memᴰ.not-nil (f u (Memᴰ.head refl)))
same_list (u ∷ us) (w ∷ ws) p q f g =
    let e = first_same p q (f u (Memᴰ.head refl)) (g w (Memᴰ.head refl)) in
    ap₂ (λ (d : ℕ) (codes : List ℕ). d ∷ codes) e (same_list us ws p.1 q.1 (rest_same p e f) (rest_same q (sym e) g))

-- there is at most one list of all codes with words, ascending
pub one_order : {words : ℕ → ℕ} {a b : List ℕ} → CodeOrder words a → CodeOrder words b → a ≡ b
one_order {words} {a} {b} p q =
    same_list a b p.ascending q.ascending (λ d m. q.all d (p.only d m)) (λ d m. p.all d (q.only d m))

-- ---- the codes that have words, the lowest first
module _ (words : ℕ → ℕ) where
  abbrev here : ℕ → List ℕ
  here d = cond (eqb (words d) 0) [] (d ∷ [])

  here_none : (d : ℕ) → words d ≡ 0 → here d ≡ []
  here_none d e = rw (eq-eqb (words d) 0 e) refl

  here_some : (d : ℕ) → words d ≢ 0 → here d ≡ d ∷ []
  here_some d n = rw (ne_eqb (words d) 0 n) refl

  in_here : (d k : ℕ) → In k (here d) → (k ≡ d) × (words d ≢ 0)
  in_here d k m = elim (ℕ_discrete (words d) 0) [
    | yes e ↦ absurd (Memᴰ.not-nil (subst (In k) (here_none d e) m))
    | no n ↦ (Memᴰ.eq_of_singleton (subst (In k) (here_some d n) m), n)
  ]

  here_in : (d : ℕ) → words d ≢ 0 → In d (here d)
  here_in d n = subst (In d) (sym (here_some d n)) (Memᴰ.head refl)

  -- those below n
  below : (n k : ℕ) → In k (lowest_first n words) → (k < n) × (words k ≢ 0)
  unfolding lowest_first
  below zero k m = absurd (Memᴰ.not-nil m)
  below (suc n) k m =
      ⊎_elim (λ a. let r = below n k a in (omega (arith, r.0), r.1))
      (λ b. let r = in_here n k b in (omega (arith, r.0), subst (λ (j : ℕ). words j ≢ 0) (sym r.0) r.1))
      (Memᴰ.append_cases (lowest_first n words) m)

  all_below_lem : (n k : ℕ) → k < n → words k ≢ 0 → In k (lowest_first n words)
  unfolding lowest_first
  all_below_lem zero k h w = let z : ⊥ = omega arith in absurd z
  all_below_lem (suc n) k h w = elim (ℕ_discrete k n) [
    | yes e ↦ Memᴰ.append_right (lowest_first n words) (subst (λ (j : ℕ). In j (here n)) (sym e) (here_in n (subst (λ (j : ℕ). words j ≢ 0) e w)))
    | no d ↦ Memᴰ.append_left (here n) (all_below_lem n k (omega arith) w)
  ]

  ascending_here : (d : ℕ) → Ascending (here d)
  ascending_here d = by (eqb (words d) 0)
    where
      by : (t : Bool) → Ascending (cond t [] (d ∷ []))
      by true = tt
      by false = (λ e m. absurd (Memᴰ.not-nil m), tt)

  pub ascending : (n : ℕ) → Ascending (lowest_first n words)
  unfolding lowest_first
  ascending zero = tt
  ascending (suc n) =
      ascending_append (lowest_first n words) (here n) (ascending n) (ascending_here n)
      (λ u w a b. let h = (below n u a).0 in let e = (in_here n w b).0 in omega arith)

  -- where no code above 255 has words
  pub lowest_first_lem : ((d : ℕ) → 256 ≤ d → words d ≡ 0) → CodeOrder words (lowest_first 256 words)
  lowest_first_lem none =
      record {
        ascending = ascending 256;
        only = λ d m. (below 256 d m).1;
        all = λ d w. all_below_lem 256 d (inside d w) w;
      }
    where
      inside : (d : ℕ) → words d ≢ 0 → d < 256
      inside d w = elim (dec_lt d 256) [ yes h ↦ h | no h ↦ absurd (w (none d (omega arith))) ]
