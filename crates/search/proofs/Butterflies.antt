-- The arrays of `advance`, filled up to a butterfly: the states 2 n and 2 n + 1 for each n below it. Assumes nothing.
use mathlib.Core.Path.{◌≡◌, sym, ap, ap₂, ◌∙◌, subst}
use mathlib.Core.Bool.{Bool, true, false}
use mathlib.Core.List.{List}
use Prim.Native.Nat.{ℕ, ◌+◌, ◌*◌, ◌/◌, ◌%◌, ◌<◌, ◌≤◌}
use native.Mathlib.Omega.{arith}
use native.Mathlib.Decide.{ℕ_discrete}
use lib.Dec.{eqb, eqb→eq}
use lib.ListN.{length, get_or, set, length-set}
use lib.Seq.{get_or-set_same, get_or-set_other}
use Rattle.bits.specs.Bits.{bit}
use Rattle.bits.proofs.Tested.{below_bit}
use Rattle.trellis.specs.Numbering.{pred_low}
use Rattle.search.specs.Row.{place_of}
use Rattle.search.specs.Butterfly.{Advanced, candidate_of, metric_into, byte_into}
use Rattle.search.specs.Select.{lesser_of, byte_of}

-- where the row of the step into 2 n and into 2 n + 1 is read: 32 on from the upper predecessor
abbrev upper : Bool → ℕ → ℕ
upper false n = n
upper true n = n + 32

place_even : (n : ℕ) (b : Bool) → n < 16 → upper b n ≡ place_of (pred_low (n * 2) b) (bit (n * 2))
place_even n b h = eqb→eq _ _ (below_bit (λ b n. eqb (upper b n) (place_of (pred_low (n * 2) b) (bit (n * 2)))) 16 tt tt b n h)

place_odd : (n : ℕ) (b : Bool) → n < 16 → upper b (n + 16) ≡ place_of (pred_low (n * 2 + 1) b) (bit (n * 2 + 1))
place_odd n b h = eqb→eq _ _ (below_bit (λ b n. eqb (upper b (n + 16)) (place_of (pred_low (n * 2 + 1) b) (bit (n * 2 + 1)))) 16 tt tt b n h)

-- the places 2 n and 2 n + 1 are right for each n below k
abbrev pub Pairs : (ℕ → ℕ) → List ℕ → ℕ → Type 0
Pairs f l k = (n : ℕ) → n < k → (get_or l (n * 2) 0 ≡ f (n * 2)) × (get_or l (n * 2 + 1) 0 ≡ f (n * 2 + 1))

pub set_pairs : (f : ℕ → ℕ) (l : List ℕ) (k v w : ℕ) → length l ≡ 32 → k < 16 → v ≡ f (k * 2) → w ≡ f (k * 2 + 1) → Pairs f l k
    → Pairs f (set (set l (k * 2) v) (k * 2 + 1) w) (k + 1)
set_pairs f l k v w len h ev ew p n b = go (ℕ_discrete n k)
  where
    len' : length (set l (k * 2) v) ≡ 32
    len' = length-set l (k * 2) v ∙ len

    go : Dec (n ≡ k) → (get_or (set (set l (k * 2) v) (k * 2 + 1) w) (n * 2) 0 ≡ f (n * 2)) × (get_or (set (set l (k * 2) v) (k * 2 + 1) w) (n * 2 + 1) 0 ≡ f (n * 2 + 1))
    go (yes q) = (
      ap (λ (i : ℕ). get_or (set (set l (k * 2) v) (k * 2 + 1) w) (i * 2) 0) q ∙ get_or-set_other (set l (k * 2) v) (k * 2 + 1) (k * 2) w 0 (λ e. omega arith)
          ∙ get_or-set_same l (k * 2) v 0 (omega arith) ∙ ev ∙ ap (λ (i : ℕ). f (i * 2)) (sym q),
      ap (λ (i : ℕ). get_or (set (set l (k * 2) v) (k * 2 + 1) w) (i * 2 + 1) 0) q ∙ get_or-set_same (set l (k * 2) v) (k * 2 + 1) w 0 (omega (arith, len')) ∙ ew
          ∙ ap (λ (i : ℕ). f (i * 2 + 1)) (sym q),
    )
    go (no q) = (
      get_or-set_other (set l (k * 2) v) (k * 2 + 1) (n * 2) w 0 (λ e. omega arith) ∙ get_or-set_other l (k * 2) (n * 2) v 0 (λ e. omega (arith, q)) ∙ (p n (omega arith)).0,
      get_or-set_other (set l (k * 2) v) (k * 2 + 1) (n * 2 + 1) w 0 (λ e. omega (arith, q)) ∙ get_or-set_other l (k * 2) (n * 2 + 1) v 0 (λ e. omega arith) ∙ (p n (omega arith)).1,
    )

-- all sixteen
pairs_all : (f : ℕ → ℕ) (l : List ℕ) → Pairs f l 16 → (t : ℕ) → t < 32 → get_or l t 0 ≡ f t
pairs_all f l p t h = go (ℕ_discrete (t % 2) 0)
  where
    go : Dec (t % 2 ≡ 0) → get_or l t 0 ≡ f t
    go (yes b) = let e : t / 2 * 2 ≡ t = omega arith in subst (λ (i : ℕ). get_or l i 0 ≡ f i) e (p (t / 2) (omega arith)).0
    go (no b) = let e : t / 2 * 2 + 1 ≡ t = omega arith in subst (λ (i : ℕ). get_or l i 0 ≡ f i) e (p (t / 2) (omega arith)).1

pub record Filled (ms : List ℕ) (cs : List ℕ) (next : List ℕ) (bytes : List ℕ) (k : ℕ) : Type 0 where
  pub low : k ≤ 16
  pub next-length : length next ≡ 32
  pub bytes-length : length bytes ≡ 32
  pub metric : Pairs (metric_into ms cs) next k
  pub byte : Pairs (byte_into ms cs) bytes k

module _ (ms : List ℕ) (cs : List ℕ) where
  pub filled_more : (next bytes : List ℕ) (k v w x y : ℕ) → k < 16 → Filled ms cs next bytes k
      → v ≡ lesser_of (get_or ms k 0 + get_or cs k 0) (get_or ms (k + 16) 0 + get_or cs (k + 32) 0)
      → w ≡ lesser_of (get_or ms k 0 + get_or cs (k + 16) 0) (get_or ms (k + 16) 0 + get_or cs (k + 48) 0)
      → x ≡ byte_of (get_or ms k 0 + get_or cs k 0) (get_or ms (k + 16) 0 + get_or cs (k + 32) 0) k
      → y ≡ byte_of (get_or ms k 0 + get_or cs (k + 16) 0) (get_or ms (k + 16) 0 + get_or cs (k + 48) 0) k
      → Filled ms cs (set (set next (k * 2) v) (k * 2 + 1) w) (set (set bytes (k * 2) x) (k * 2 + 1) y) (k + 1)
  filled_more next bytes k v w x y h f ev ew ex ey =
      let e : k ≡ k * 2 / 2 = omega arith in
      let e' : k ≡ (k * 2 + 1) / 2 = omega arith in
      let z : k + 48 ≡ k + 16 + 32 = omega arith in
      let a = ap₂ (λ (i j : ℕ). get_or ms i 0 + get_or cs j 0) e (place_even k false h) in
      let b = ap₂ (λ (i j : ℕ). get_or ms (i + 16) 0 + get_or cs j 0) e (place_even k true h) in
      let c = ap₂ (λ (i j : ℕ). get_or ms i 0 + get_or cs j 0) e' (place_odd k false h) in
      let d = ap₂ (λ (i j : ℕ). get_or ms (i + 16) 0 + get_or cs j 0) e' (z ∙ place_odd k true h) in
      record {
        low = omega arith;
        next-length = length-set (set next (k * 2) v) (k * 2 + 1) w ∙ length-set next (k * 2) v ∙ f.next-length;
        bytes-length = length-set (set bytes (k * 2) x) (k * 2 + 1) y ∙ length-set bytes (k * 2) x ∙ f.bytes-length;
        metric = set_pairs (metric_into ms cs) next k v w f.next-length h
            (ev ∙ ap₂ lesser_of a b) (ew ∙ ap₂ lesser_of c d) f.metric;
        byte = set_pairs (byte_into ms cs) bytes k x y f.bytes-length h
            (ex ∙ ap₂ (λ (x y : ℕ). byte_of x y k) a b ∙ ap (byte_of (candidate_of ms cs (k * 2) false) (candidate_of ms cs (k * 2) true)) e)
            (ey ∙ ap₂ (λ (x y : ℕ). byte_of x y k) c d ∙ ap (byte_of (candidate_of ms cs (k * 2 + 1) false) (candidate_of ms cs (k * 2 + 1) true)) e') f.byte;
      }

  pub filled_all : (next bytes : List ℕ) (k : ℕ) → Filled ms cs next bytes k → 16 ≤ k → Advanced ms cs (record { metrics = next; predecessors = bytes })
  filled_all next bytes k f h =
      record {
        metric = pairs_all (metric_into ms cs) next (λ n b. f.metric n (omega arith));
        byte = pairs_all (byte_into ms cs) bytes (λ n b. f.byte n (omega arith));
      }
