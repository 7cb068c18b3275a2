-- What the nearest words decide, in the terms of trellis/specs/Search.antt, over any set of words and any weight: one word alone is nearest and decides, with
-- its weight, or two distinct words share the least weight. The list of the nearest words has one word or more. Assumes nothing.
use mathlib.Core.Path.{◌≡◌, refl, sym, ap, ◌∙◌}
use mathlib.Core.Logic.{◌⊎◌, inl, inr}
use mathlib.Core.Bool.{Bool, true, false, cond, false≢true, Bool-discrete}
use mathlib.Core.List.{List, [], ◌∷◌, List-discrete}
use Prim.Native.Nat.{ℕ, ◌≤◌}
use native.Mathlib.Decide.{ℕ_discrete}
use native.Mathlib.Omega.{arith}
use lib.Dec.{eqb}
use lib.ListN.{length, get_or}
use borrow.Author.Tests.{ne_eqb}
use Rattle.trellis.specs.Search.{Nearest, Ambiguous}
use Rattle.trellis.specs.Nearest.{lightest, decided}
use Rattle.trellis.proofs.AllWords.{Lists}
use Rattle.trellis.proofs.Members.{some_nearest, at_least_one, alone, shared, shared_back}
use Rattle.trellis.proofs.Searching.{alone_unique}

module _ {A : Type 0} (Word : List Bool → Type 0) (weight : List Bool → ℕ) (one : List Bool → ℕ → A) (more : A) where
  -- one word alone is nearest, and decides
  pub record Single (x : A) : Type 0 where
    pub word : List Bool
    pub nearest : Nearest Word weight word
    pub only : (u : List Bool) → Nearest Word weight u → u ≡ word
    pub decides : x ≡ one word (weight word)

  -- two distinct words are nearest
  pub record Shared (x : A) : Type 0 where
    pub ambiguous : Ambiguous Word weight
    pub decides : x ≡ more

  abbrev pub Decided : A → Type 0
  Decided x = Single x ⊎ Shared x

-- ---- by what the nearest words are
module _ {A : Type 0} {Word : List Bool → Type 0} {weight : List Bool → ℕ} {one : List Bool → ℕ → A} {more : A} {x : A} where
  pub decided_alone : Decided Word weight one more x → {w : List Bool} → Nearest Word weight w → (Ambiguous Word weight → ⊥) → x ≡ one w (weight w)
  decided_alone (inl s) {w} n none = s.decides ∙ ap (λ (u : List Bool). one u (weight u)) (sym (s.only w n))
  decided_alone (inr s) n none = absurd (none s.ambiguous)

  pub decided_shared : Decided Word weight one more x → Ambiguous Word weight → x ≡ more
  decided_shared (inl s) a = absurd (a.distinct (s.only a.one a.one_nearest ∙ sym (s.only a.other a.other_nearest)))
  decided_shared (inr s) a = s.decides

  -- by what a search found
  pub found_decides : Decided Word weight one more x → {w : List Bool} {metric : ℕ} (tie : Bool) → Nearest Word weight w → metric ≡ weight w
      → (tie ≡ true → Ambiguous Word weight) → (Ambiguous Word weight → tie ≡ true) → cond tie more (one w metric) ≡ x
  found_decides d true n e tied clear = sym (decided_shared d (tied refl))
  found_decides d {w} false n e tied clear = ap (one w) e ∙ sym (decided_alone d n (λ a. false≢true (clear a)))

  -- what is said where words tie, or a part of it, is said only there, if it is said of no word alone
  pub only_shared : Decided Word weight one more x → {B : Type 0} (part : A → B) → ((w : List Bool) (n : ℕ) → part (one w n) ≡ part more → ⊥) → part x ≡ part more → Ambiguous Word weight
  only_shared (inl s) part apart e = absurd (apart s.word (weight s.word) (sym (ap part s.decides) ∙ e))
  only_shared (inr s) part apart e = s.ambiguous

-- ---- the law
module _ {A : Type 0} {Word : List Bool → Type 0} {ws : List (List Bool)} (lists : Lists Word ws) (weight : List Bool → ℕ) (one : List Bool → ℕ → A) (more : A) where
  one_decides : {w : List Bool} → lightest weight ws ≡ w ∷ [] → decided ws weight one more ≡ one w (weight w)
  unfolding decided
  one_decides = ap (λ (us : List (List Bool)). cond (eqb (length us) 1) (one (get_or us 0 []) (weight (get_or us 0 []))) more)

  more_decide : (length (lightest weight ws) ≡ 1 → ⊥) → decided ws weight one more ≡ more
  unfolding decided
  more_decide n = rw (ne_eqb (length (lightest weight ws)) 1 n)

  pub nearest_decide : Decided Word weight one more (decided ws weight one more)
  nearest_decide = by (ℕ_discrete (length (lightest weight ws)) 1)
    where
      by : Dec (length (lightest weight ws) ≡ 1) → Decided Word weight one more (decided ws weight one more)
      by (no n) = inr (record { ambiguous = shared_back lists weight (omega (arith, at_least_one lists weight)); decides = more_decide n })
      by (yes e) =
          let none : Ambiguous Word weight → ⊥ = λ a. let h : 2 ≤ length (lightest weight ws) = shared lists weight a in omega arith in
          let r = some_nearest lists weight in
          inl (record {
            word = r.0;
            nearest = r.1;
            only = λ u n. alone_unique u r.0 none n r.1 (List-discrete Bool-discrete u r.0);
            decides = one_decides (alone lists weight r.1 none);
          })
