-- Of a list of the words of a set those that weigh least are the nearest of trellis/specs/Search.antt, each once: one where the nearest word is alone, more where it is ambiguous.
-- Assumes nothing.
use mathlib.Core.Path.{◌≡◌, refl, sym, ap, ◌∙◌}
use mathlib.Core.Bool.{Bool, Bool-discrete}
use mathlib.Core.List.Memᴰ
use mathlib.Core.List.{List, [], ◌∷◌, List-discrete}
use Prim.Native.Nat.{ℕ, ◌≤◌}
use native.Mathlib.Omega.{arith}
use lib.ListN.{length}
use Rattle.trellis.specs.Search.{Nearest, Ambiguous}
use Rattle.trellis.proofs.Searching.{alone_unique}
use Rattle.trellis.specs.Nearest.{lightest}
use Rattle.trellis.proofs.AllWords.{In, Once, Lists}
use Rattle.trellis.proofs.Lightest.{Lightest, lightest_is}

-- ---- lists of words
first : (ws : List (List Bool)) → (ws ≡ [] → ⊥) → (w : List Bool) × In w ws
first [] some = absurd (some refl)
first (w ∷ ws) some = (w, Memᴰ.head refl)

one : {w : List Bool} (ws : List (List Bool)) → In w ws → 1 ≤ length ws
one [] m = absurd (Memᴰ.not-nil m)
one (x ∷ ws) m = omega arith

only : {w : List Bool} (ws : List (List Bool)) → Once ws → In w ws → ((u : List Bool) → In u ws → u ≡ w) → ws ≡ w ∷ []
only [] once m same = absurd (Memᴰ.not-nil m)
only (x ∷ []) once m same = ap (λ (u : List Bool). u ∷ []) (same x (Memᴰ.head refl))
only (x ∷ y ∷ ws) once m same =
    absurd (once.0 (Memᴰ.head (same x (Memᴰ.head refl) ∙ sym (same y (Memᴰ.tail (Memᴰ.head refl))))))

two : {u w : List Bool} (ws : List (List Bool)) → In u ws → In w ws → (u ≡ w → ⊥) → 2 ≤ length ws
two [] p q apart = absurd (Memᴰ.not-nil p)
two (x ∷ []) p q apart = absurd (apart (Memᴰ.eq_of_singleton p ∙ sym (Memᴰ.eq_of_singleton q)))
two (x ∷ y ∷ ws) p q apart = omega arith

-- ---- the lightest of a list of words are the nearest of their set
module _ {Word : List Bool → Type 0} {ws : List (List Bool)} (lists : Lists Word ws) (weight : List Bool → ℕ) where
  of_all : Lightest weight ws (lightest weight ws)
  of_all = lightest_is weight ws

  pub member_nearest : (w : List Bool) → In w (lightest weight ws) → Nearest Word weight w
  member_nearest w m = record { word = lists.to w (of_all.from w m); least = λ u l. of_all.light w m u (lists.from u l) }

  pub nearest_member : (w : List Bool) → Nearest Word weight w → In w (lightest weight ws)
  nearest_member w p = of_all.all w (lists.from w p.word) (λ u m. p.least u (lists.to u m))

  pub nearest_once : Once (lightest weight ws)
  nearest_once = of_all.once lists.once

  -- ---- how many there are: at least one,
  not_none : lightest weight ws ≡ [] → ⊥
  not_none = of_all.some lists.some.0 (lists.from lists.some.0 lists.some.1)

  pub some_nearest : (w : List Bool) × Nearest Word weight w
  some_nearest = let r = first (lightest weight ws) not_none in (r.0, member_nearest r.0 r.1)

  pub at_least_one : 1 ≤ length (lightest weight ws)
  at_least_one = one (lightest weight ws) (first (lightest weight ws) not_none).1

  -- one where it is alone,
  pub alone : {w : List Bool} → Nearest Word weight w → (Ambiguous Word weight → ⊥) → lightest weight ws ≡ w ∷ []
  alone {w} p none =
      only (lightest weight ws) nearest_once (nearest_member w p)
      (λ u m. alone_unique u w none (member_nearest u m) p (List-discrete Bool-discrete u w))

  -- and more where it is not
  pub shared : Ambiguous Word weight → 2 ≤ length (lightest weight ws)
  shared a = two (lightest weight ws) (nearest_member a.one a.one_nearest) (nearest_member a.other a.other_nearest) a.distinct

  pub shared_back : 2 ≤ length (lightest weight ws) → Ambiguous Word weight
  shared_back = first_two (lightest weight ws) nearest_once member_nearest
    where
      first_two : (us : List (List Bool)) → Once us → ((w : List Bool) → In w us → Nearest Word weight w) → 2 ≤ length us → Ambiguous Word weight
      first_two [] once near h = absurd (omega arith)
      first_two (x ∷ []) once near h = absurd (omega arith)
      first_two (x ∷ y ∷ us) once near h =
          record {
            one = x;
            other = y;
            one_nearest = near x (Memᴰ.head refl);
            other_nearest = near y (Memᴰ.tail (Memᴰ.head refl));
            distinct = λ e. once.0 (Memᴰ.head e);
          }
