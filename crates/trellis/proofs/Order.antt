-- The order of paths and words, and where two differ. Assumes nothing.
use mathlib.Core.Path.{◌≡◌, refl, sym, ap, subst}
use mathlib.Core.Bool.{Bool, true, false}
use mathlib.Core.List.{List, [], ◌∷◌, ◌++◌}
use Prim.Native.Nat.{ℕ, suc, ◌-◌, ◌≤◌, ◌<◌}
use native.Mathlib.Omega.{arith}
use native.Mathlib.Decide.{dec_le}
use lib.ListN.{length, take}
use Rattle.trellis.specs.Search.{Precedes}
use Rattle.trellis.specs.Trellis.{DifferAfter}
use Rattle.trellis.proofs.Optimal.{differ_since}

pub precedes_prefix : (p u w : List Bool) → Precedes u w → Precedes (p ++ u) (p ++ w)
precedes_prefix [] u w h = h
precedes_prefix (false ∷ p) u w h = precedes_prefix p u w h
precedes_prefix (true ∷ p) u w h = precedes_prefix p u w h

pub precedes_suffix : (u w p q : List Bool) → length u ≡ length w → Precedes (u ++ p) (w ++ q) → Precedes u w
precedes_suffix [] w p q l h = tt
precedes_suffix (a ∷ u) [] p q l h = let z : ⊥ = omega arith in absurd z
precedes_suffix (false ∷ u) (false ∷ w) p q l h = precedes_suffix u w p q (omega arith) h
precedes_suffix (false ∷ u) (true ∷ w) p q l h = tt
precedes_suffix (true ∷ u) (false ∷ w) p q l h = absurd h
precedes_suffix (true ∷ u) (true ∷ w) p q l h = precedes_suffix u w p q (omega arith) h

pub differ_distinct : (u w : List Bool) → DifferAfter 0 u w → u ≡ w → ⊥
differ_distinct u w a e = self u (subst (λ (v : List Bool). DifferAfter 0 u v) (sym e) a)
  where
    self : (u : List Bool) → DifferAfter 0 u u → ⊥
    self [] h = h
    self (false ∷ u) h = self u h
    self (true ∷ u) h = self u h

pub distinct_differ : (u w : List Bool) → length u ≡ length w → (u ≡ w → ⊥) → DifferAfter 0 u w
distinct_differ [] [] l n = n refl
distinct_differ [] (b ∷ w) l n = omega arith
distinct_differ (a ∷ u) [] l n = let z : ⊥ = omega arith in absurd z
distinct_differ (false ∷ u) (false ∷ w) l n = distinct_differ u w (omega arith) (λ e. n (ap (λ (v : List Bool). false ∷ v) e))
distinct_differ (false ∷ u) (true ∷ w) l n = omega arith
distinct_differ (true ∷ u) (false ∷ w) l n = omega arith
distinct_differ (true ∷ u) (true ∷ w) l n = distinct_differ u w (omega arith) (λ e. n (ap (λ (v : List Bool). true ∷ v) e))

pub precedes_both : (u w : List Bool) → length u ≡ length w → Precedes u w → Precedes w u → u ≡ w
precedes_both [] [] l p q = refl
precedes_both [] (b ∷ w) l p q = let z : ⊥ = omega arith in absurd z
precedes_both (a ∷ u) [] l p q = let z : ⊥ = omega arith in absurd z
precedes_both (false ∷ u) (false ∷ w) l p q = ap (λ (v : List Bool). false ∷ v) (precedes_both u w (omega arith) p q)
precedes_both (false ∷ u) (true ∷ w) l p q = absurd q
precedes_both (true ∷ u) (false ∷ w) l p q = absurd p
precedes_both (true ∷ u) (true ∷ w) l p q = ap (λ (v : List Bool). true ∷ v) (precedes_both u w (omega arith) p q)

-- ---- choices that differ after the first `since` differ in their newest part, and the other way round

module _ (since : ℕ) where
  newer : (c : List Bool) → since ≤ length c → suc (length c) - since ≡ suc (length c - since)
  newer c h = omega arith

  same_step : (x y : Bool) (c d : List Bool) → since ≤ length c → (DifferAfter since (x ∷ c) (y ∷ d) → ⊥) → ((DifferAfter since c d → ⊥) → take (length c - since) c ≡ take (length c - since) d)
      → x ∷ take (length c - since) c ≡ y ∷ take (length c - since) d
  same_step false false c d h n ih = ap (λ (l : List Bool). false ∷ l) (ih n)
  same_step false true c d h n ih = absurd (n h)
  same_step true false c d h n ih = absurd (n h)
  same_step true true c d h n ih = ap (λ (l : List Bool). true ∷ l) (ih n)

  pub same_newer : (c d : List Bool) → length c ≡ length d → (DifferAfter since c d → ⊥) → take (length c - since) c ≡ take (length c - since) d
  same_newer [] [] l n = refl
  same_newer [] (y ∷ d) l n = let z : ⊥ = omega arith in absurd z
  same_newer (x ∷ c) [] l n = let z : ⊥ = omega arith in absurd z
  same_newer (x ∷ c) (y ∷ d) l n = go (dec_le since (length c)) (same_newer c d (omega arith))
    where
      go : Dec (since ≤ length c) → ((DifferAfter since c d → ⊥) → take (length c - since) c ≡ take (length c - since) d)
          → take (suc (length c) - since) (x ∷ c) ≡ take (suc (length c) - since) (y ∷ d)
      go (yes h) ih = subst (λ (m : ℕ). take m (x ∷ c) ≡ take m (y ∷ d)) (sym (newer c h)) (same_step x y c d h n ih)
      go (no h) ih = let e : 0 ≡ suc (length c) - since = omega arith in subst (λ (m : ℕ). take m (x ∷ c) ≡ take m (y ∷ d)) e refl

  differ_step : (x y : Bool) (c d : List Bool) → (DifferAfter since c d → take (length c - since) c ≡ take (length c - since) d → ⊥)
      → DifferAfter since (x ∷ c) (y ∷ d) → x ∷ take (length c - since) c ≡ y ∷ take (length c - since) d → ⊥
  differ_step false false c d ih a e = ih a (cc)
  differ_step false true c d ih a e = let z : ◌≡◌ {A = Bool} false true = cc in let w : ◌≡◌ {A = ℕ} 0 1 = ap bit_n z in omega arith
    where
      bit_n : Bool → ℕ
      bit_n false = 0
      bit_n true = 1
  differ_step true false c d ih a e = let z : ◌≡◌ {A = Bool} false true = cc in let w : ◌≡◌ {A = ℕ} 0 1 = ap bit_n z in omega arith
    where
      bit_n : Bool → ℕ
      bit_n false = 0
      bit_n true = 1
  differ_step true true c d ih a e = ih a (cc)

  pub differ_newer : (c d : List Bool) → length c ≡ length d → DifferAfter since c d → take (length c - since) c ≡ take (length c - since) d → ⊥
  differ_newer [] [] l a e = a
  differ_newer [] (y ∷ d) l a e = a
  differ_newer (x ∷ c) [] l a e = omega arith
  differ_newer (x ∷ c) (y ∷ d) l a e =
      let h : since < suc (length c) = differ_since since (x ∷ c) (y ∷ d) a in
      differ_step x y c d (differ_newer c d (omega arith)) a (subst (λ (m : ℕ). take m (x ∷ c) ≡ take m (y ∷ d)) (newer c (omega arith)) e)

-- ---- whether two paths differ so is decided
pub dec_differ : (since : ℕ) (c d : List Bool) → Dec (DifferAfter since c d)
dec_differ since [] d = no (λ a. a)
dec_differ since (false ∷ c) [] = no (λ a. a)
dec_differ since (true ∷ c) [] = no (λ a. a)
dec_differ since (false ∷ c) (false ∷ d) = dec_differ since c d
dec_differ since (false ∷ c) (true ∷ d) = dec_le since (length c)
dec_differ since (true ∷ c) (false ∷ d) = dec_le since (length c)
dec_differ since (true ∷ c) (true ∷ d) = dec_differ since c d
