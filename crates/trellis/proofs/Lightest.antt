-- Of a list of words those that weigh least, each once. Assumes nothing.
use mathlib.Core.Path.{◌≡◌, refl, sym, subst}
use mathlib.Core.Logic.{⊎_elim}
use mathlib.Core.Bool.{Bool, true, false, cond}
use mathlib.Core.List.Memᴰ
use mathlib.Core.List.{List, [], ◌∷◌, cons≢nil}
use Prim.Native.Nat.{ℕ, ◌≤◌, ◌<◌}
use native.Mathlib.Omega.{arith}
use native.Mathlib.Nat.{le_refl}
use lib.Dec.{ltb}
use borrow.Author.Tests.{ltb-true, ltb-false}
use Rattle.trellis.specs.Nearest.{against, lightest}
use Rattle.trellis.proofs.AllWords.{In, Once}

-- what holds of a word and of those in a list holds of each in the list with it
each : (P : List Bool → Type 0) {w : List Bool} {ws : List (List Bool)} → P w → ((u : List Bool) → In u ws → P u) → (u : List Bool) → In u (w ∷ ws) → P u
each P p ps u m = ⊎_elim (λ e. subst P (sym e) p) (ps u) (Memᴰ.cases_cons m)

module _ (weight : List Bool → ℕ) where
  -- the words of ws that weigh least
  pub record Lightest (ws least : List (List Bool)) : Type 0 where
    pub from : (w : List Bool) → In w least → In w ws
    pub light : (w : List Bool) → In w least → (u : List Bool) → In u ws → weight w ≤ weight u
    pub all : (w : List Bool) → In w ws → ((u : List Bool) → In u ws → weight w ≤ weight u) → In w least
    pub some : (w : List Bool) → In w ws → least ≡ [] → ⊥
    pub once : Once ws → Once least

  module _ {w : List Bool} {ws : List (List Bool)} where
    -- one word more: it weighs less than each of them,
    replaces : ((u : List Bool) → In u ws → weight w < weight u) → Lightest (w ∷ ws) (w ∷ [])
    replaces less =
        record {
          from = each (λ x. In x (w ∷ ws)) (Memᴰ.head refl) (λ x m. absurd (Memᴰ.not-nil m));
          light = each (λ x. (u : List Bool) → In u (w ∷ ws) → weight x ≤ weight u) (each (λ u. weight w ≤ weight u) (le_refl _) (λ u m. omega (arith, less u m)))
              (λ x m. absurd (Memᴰ.not-nil m));
          all = λ x m l. each (λ y. weight y ≤ weight w → In y (w ∷ [])) (λ h. Memᴰ.head refl) (λ y n h. absurd (omega (arith, less y n))) x m (l w (Memᴰ.head refl));
          some = λ x m e. cons≢nil e;
          once = λ o. (Memᴰ.not-nil, tt);
        }

    module _ {least : List (List Bool)} (l : Lightest ws least) (v : List Bool) (member : In v least) where
      -- more than the least of them,
      stays : weight v < weight w → Lightest (w ∷ ws) least
      stays h =
          record {
            from = λ x m. Memᴰ.tail (l.from x m);
            light = λ x m. each (λ u. weight x ≤ weight u) (omega (arith, l.light x m v (l.from v member))) (l.light x m);
            all = λ x m a. each (λ y. ((u : List Bool) → In u (w ∷ ws) → weight y ≤ weight u) → In y least)
                (λ b. absurd (omega (arith, b v (Memᴰ.tail (l.from v member))))) (λ y n b. l.all y n (λ u k. b u (Memᴰ.tail k))) x m a;
            some = λ x m. l.some v (l.from v member);
            once = λ o. l.once o.1;
          }

      -- or as much
      joins : weight v ≡ weight w → Lightest (w ∷ ws) (w ∷ least)
      joins e =
          record {
            from = each (λ x. In x (w ∷ ws)) (Memᴰ.head refl) (λ x m. Memᴰ.tail (l.from x m));
            light = each (λ x. (u : List Bool) → In u (w ∷ ws) → weight x ≤ weight u)
                (each (λ u. weight w ≤ weight u) (le_refl _) (λ u m. omega (arith, l.light v member u m)))
                (λ x m. each (λ u. weight x ≤ weight u) (omega (arith, l.light x m v (l.from v member))) (l.light x m));
            all = λ x m a. each (λ y. ((u : List Bool) → In u (w ∷ ws) → weight y ≤ weight u) → In y (w ∷ least))
                (λ b. Memᴰ.head refl) (λ y n b. Memᴰ.tail (l.all y n (λ u k. b u (Memᴰ.tail k)))) x m a;
            some = λ x m z. cons≢nil z;
            once = λ o. (λ m. o.0 (l.from w m), l.once o.1);
          }

  lightest_more : (w : List Bool) {ws : List (List Bool)} (least : List (List Bool)) → Lightest ws least → Lightest (w ∷ ws) (against weight w least)
  unfolding against
  lightest_more w [] l = replaces (λ u m. absurd (l.some u m refl))
  lightest_more w {ws} (v ∷ vs) l = by (ltb (weight w) (weight v)) refl (ltb (weight v) (weight w)) refl
    where
      here : In v (v ∷ vs)
      here = Memᴰ.head refl

      by : (less : Bool) → ltb (weight w) (weight v) ≡ less → (more : Bool) → ltb (weight v) (weight w) ≡ more
          → Lightest (w ∷ ws) (cond less (w ∷ []) (cond more (v ∷ vs) (w ∷ v ∷ vs)))
      by true e more f = replaces (λ u m. omega (arith, ltb-true (weight w) (weight v) e, l.light v here u m))
      by false e true f = stays l v here (ltb-true (weight v) (weight w) f)
      by false e false f = joins l v here (omega (arith, ltb-false (weight w) (weight v) e, ltb-false (weight v) (weight w) f))

  pub lightest_is : (ws : List (List Bool)) → Lightest ws (lightest weight ws)
  unfolding lightest
  lightest_is [] =
      record {
        from = λ w m. m;
        light = λ w m u n. absurd (Memᴰ.not-nil n);
        all = λ w m l. m;
        some = λ w m e. Memᴰ.not-nil m;
        once = λ o. o;
      }
  lightest_is (w ∷ ws) = lightest_more w (lightest weight ws) (lightest_is ws)
