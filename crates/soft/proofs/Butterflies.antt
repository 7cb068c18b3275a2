-- The arrays of `select`, filled up to a butterfly: the states n and n + 16 for each n below it. Assumes nothing.
use mathlib.Core.Path.{◌≡◌, sym, ap, ap₂, ◌∙◌, subst}
use mathlib.Core.Bool.{true, false}
use mathlib.Core.List.{List}
use Prim.Native.Nat.{ℕ, ◌+◌, ◌*◌, ◌/◌, ◌%◌, ◌<◌, ◌≤◌}
use native.Mathlib.Omega.{arith}
use native.Mathlib.Decide.{ℕ_discrete, dec_lt}
use lib.Dec.{eqb}
use lib.ListN.{length, get_or, set, length-set}
use lib.Seq.{get_or-set_same, get_or-set_other}
use lib.Ieee.{Float, nan, binary64, add}
use Rattle.bits.specs.Bits.{bit}
use Rattle.soft.specs.Step.{lesser_of, chosen_of, candidate_of, metric_into, chosen_into, Selected}

-- the places n and n + 16 are right for each n below k
abbrev pub Halves : {A : Type 0} → A → (ℕ → A) → List A → ℕ → Type 0
Halves d f l k = (n : ℕ) → n < k → (get_or l n d ≡ f n) × (get_or l (n + 16) d ≡ f (n + 16))

set_halves : {A : Type 0} (d : A) (f : ℕ → A) (l : List A) (k : ℕ) (v w : A) → length l ≡ 32 → k < 16 → v ≡ f k → w ≡ f (k + 16) → Halves d f l k
    → Halves d f (set (set l k v) (k + 16) w) (k + 1)
set_halves {A} d f l k v w len h ev ew p n b = go (ℕ_discrete n k)
  where
    len' : length (set l k v) ≡ 32
    len' = length-set l k v ∙ len

    go : Dec (n ≡ k) → (get_or (set (set l k v) (k + 16) w) n d ≡ f n) × (get_or (set (set l k v) (k + 16) w) (n + 16) d ≡ f (n + 16))
    go (yes q) = (
      ap (λ (i : ℕ). get_or (set (set l k v) (k + 16) w) i d) q ∙ get_or-set_other (set l k v) (k + 16) k w d (λ e. omega arith)
          ∙ get_or-set_same l k v d (omega arith) ∙ ev ∙ ap f (sym q),
      ap (λ (i : ℕ). get_or (set (set l k v) (k + 16) w) (i + 16) d) q ∙ get_or-set_same (set l k v) (k + 16) w d (omega (arith, len')) ∙ ew
          ∙ ap (λ (i : ℕ). f (i + 16)) (sym q),
    )
    go (no q) = (
      get_or-set_other (set l k v) (k + 16) n w d (λ e. omega arith) ∙ get_or-set_other l k n v d (λ e. omega (arith, q)) ∙ (p n (omega arith)).0,
      get_or-set_other (set l k v) (k + 16) (n + 16) w d (λ e. omega (arith, q)) ∙ get_or-set_other l k (n + 16) v d (λ e. omega arith) ∙ (p n (omega arith)).1,
    )

-- all sixteen
halves_all : {A : Type 0} (d : A) (f : ℕ → A) (l : List A) → Halves d f l 16 → (t : ℕ) → t < 32 → get_or l t d ≡ f t
halves_all {A} d f l p t h = go (dec_lt t 16)
  where
    go : Dec (t < 16) → get_or l t d ≡ f t
    go (yes b) = (p t b).0
    go (no b) = let e : t % 16 + 16 ≡ t = omega arith in subst (λ (i : ℕ). get_or l i d ≡ f i) e (p (t % 16) (omega arith)).1

pub record Filled (ms zeros ones : List Float) (next : List Float) (predecessors : List ℕ) (k : ℕ) : Type 0 where
  pub low : k ≤ 16
  pub next-length : length next ≡ 32
  pub predecessors_length : length predecessors ≡ 32
  pub metric : Halves nan (metric_into ms zeros ones) next k
  pub chosen : Halves 0 (chosen_into ms zeros ones) predecessors k

module _ (ms zeros ones : List Float) where
  -- a candidate by its butterfly
  abbrev via : ℕ → List Float → ℕ → Float
  via s costs n = add binary64 (get_or ms s nan) (get_or costs n nan)

  module _ (k : ℕ) (h : k < 16) where
    low_lower : via (k * 2) zeros k ≡ candidate_of ms zeros ones k false
    low_lower =
        let p : 2 * k % 32 ≡ k * 2 = omega arith in
        let z : k / 16 % 2 ≡ 0 = omega arith in
        let q : bit (k / 16) ≡ false = ap (λ (x : ℕ). eqb x 1) z in
        let r : k % 16 ≡ k = omega arith in
        rw (p, q, r)

    low_upper : via (k * 2 + 1) ones k ≡ candidate_of ms zeros ones k true
    low_upper =
        let p : 2 * k % 32 ≡ k * 2 = omega arith in
        let z : k / 16 % 2 ≡ 0 = omega arith in
        let q : bit (k / 16) ≡ false = ap (λ (x : ℕ). eqb x 1) z in
        let r : k % 16 ≡ k = omega arith in
        rw (p, q, r)

    high_lower : via (k * 2) ones k ≡ candidate_of ms zeros ones (k + 16) false
    high_lower =
        let p : 2 * (k + 16) % 32 ≡ k * 2 = omega arith in
        let z : (k + 16) / 16 % 2 ≡ 1 = omega arith in
        let q : bit ((k + 16) / 16) ≡ true = ap (λ (x : ℕ). eqb x 1) z in
        let r : (k + 16) % 16 ≡ k = omega arith in
        rw (p, q, r)

    high_upper : via (k * 2 + 1) zeros k ≡ candidate_of ms zeros ones (k + 16) true
    high_upper =
        let p : 2 * (k + 16) % 32 ≡ k * 2 = omega arith in
        let z : (k + 16) / 16 % 2 ≡ 1 = omega arith in
        let q : bit ((k + 16) / 16) ≡ true = ap (λ (x : ℕ). eqb x 1) z in
        let r : (k + 16) % 16 ≡ k = omega arith in
        rw (p, q, r)

  pub filled_more : (next : List Float) (predecessors : List ℕ) (k : ℕ) (v w : Float) (x y : ℕ) → k < 16 → Filled ms zeros ones next predecessors k
      → v ≡ lesser_of (via (k * 2) zeros k) (via (k * 2 + 1) ones k)
      → w ≡ lesser_of (via (k * 2) ones k) (via (k * 2 + 1) zeros k)
      → x ≡ chosen_of (via (k * 2) zeros k) (via (k * 2 + 1) ones k) (k * 2)
      → y ≡ chosen_of (via (k * 2) ones k) (via (k * 2 + 1) zeros k) (k * 2)
      → Filled ms zeros ones (set (set next k v) (k + 16) w) (set (set predecessors k x) (k + 16) y) (k + 1)
  filled_more next predecessors k v w x y h f ev ew ex ey =
      let p : k * 2 ≡ 2 * k % 32 = omega arith in
      let p' : k * 2 ≡ 2 * (k + 16) % 32 = omega arith in
      record {
        low = omega arith;
        next-length = length-set (set next k v) (k + 16) w ∙ length-set next k v ∙ f.next-length;
        predecessors_length = length-set (set predecessors k x) (k + 16) y ∙ length-set predecessors k x ∙ f.predecessors_length;
        metric = set_halves nan (metric_into ms zeros ones) next k v w f.next-length h
            (ev ∙ ap₂ lesser_of (low_lower k h) (low_upper k h)) (ew ∙ ap₂ lesser_of (high_lower k h) (high_upper k h)) f.metric;
        chosen = set_halves 0 (chosen_into ms zeros ones) predecessors k x y f.predecessors_length h
            (ex ∙ ap₂ (λ (a b : Float). chosen_of a b (k * 2)) (low_lower k h) (low_upper k h) ∙ ap (chosen_of (candidate_of ms zeros ones k false) (candidate_of ms zeros ones k true)) p)
            (ey ∙ ap₂ (λ (a b : Float). chosen_of a b (k * 2)) (high_lower k h) (high_upper k h)
            ∙ ap (chosen_of (candidate_of ms zeros ones (k + 16) false) (candidate_of ms zeros ones (k + 16) true)) p') f.chosen;
      }

  pub filled_all : (next : List Float) (predecessors : List ℕ) (k : ℕ) → Filled ms zeros ones next predecessors k → 16 ≤ k
      → Selected ms zeros ones (record { metrics = next; predecessors = predecessors })
  filled_all next predecessors k f h =
      record {
        metric = halves_all nan (metric_into ms zeros ones) next (λ n b. f.metric n (omega arith));
        chosen = halves_all 0 (chosen_into ms zeros ones) predecessors (λ n b. f.chosen n (omega arith));
      }
