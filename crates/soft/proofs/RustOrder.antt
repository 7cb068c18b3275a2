-- The Rust's search and the trellis' search read back the same word, for all finite reliabilities, sums that overflow included: a path metric is
-- never NaN or negative, and a state on the way back is reached or is 0. Assumes nothing.
use mathlib.Core.Path.{◌≡◌, refl, sym, ap, ap₂, ◌∙◌, subst}
use mathlib.Core.Bool.{Bool, true, false, cond, not, true≢false, false≢true}
use mathlib.Core.List.{List, [], ◌∷◌, reverse}
use mathlib.Core.Logic.{◌⊎◌, inl, inr}
use Prim.Native.Nat.{ℕ, zero, suc, ◌+◌, ◌-◌, ◌*◌, ◌/◌, ◌%◌, ◌^◌, ◌<◌, ◌≤◌, compare}
use native.Mathlib.Omega.{arith}
use lib.Dec.{ltb}
use lib.ListN.{length, get_or}
use lib.Ieee.{Float, nan, inf, fin, Format, binary64, prec, emax, low, nearest, up, down, odd, units, round, size, sum, add, lt, eq}
use Rattle.bits.specs.Bits.{◌⊕◌, bytes}
use Rattle.coding.specs.Codes.{outputs, dcch}
use Rattle.coding.specs.Registers.{memory_high}
use Rattle.trellis.specs.Trellis.{doubles, state_metric, candidate, decision}
use Rattle.trellis.specs.Numbering.{newest_high, pred_high}
use Rattle.search.specs.Traceback.{traced}
use Rattle.trellis.proofs.Registers.{register_high_lem}
use Rattle.soft.specs.Reliability.{zero_f, is_finite, all_finite, magnitude, negative, bit_cost}
use Rattle.soft.specs.Branch.{pair_cost, soft_branch, soft_trellis}
use Rattle.soft.specs.RustOrder.{rust_metric, rust_from, rust_bits, highest}
use Rattle.soft.specs.Step.{stored_of}
use Rattle.soft.specs.Soft.{soft_word}
use Rattle.soft.proofs.Tests.{finite_each}
use Rattle.soft.proofs.ScanOrder.{displaces, kept_first, scan_is_next}
use Rattle.soft.proofs.Tracing.{decided-traced}

-- ---- no NaN, and not negative
abbrev Sound : Float → Type 0
Sound nan = ⊥
Sound (inf s) = s ≡ false
Sound (fin s m e) = s ≡ false

odd_sound : (d q k l : ℕ) → Sound (odd d false q k l)
unfolding odd
odd_sound d zero k l = refl
odd_sound d (suc q) k l = refl

units_sound : (f : Format) (q k : ℕ) → Sound (units f false q k)
unfolding units
units_sound f q k = go (ltb (q * 2 ^ k) (2 ^ (low f + suc (emax f)))) (odd (suc (prec f)) false q k (low f)) (odd_sound (suc (prec f)) q k (low f))
  where
    go : (v : Bool) (x : Float) → Sound x → Sound (cond v x (inf false))
    go true x h = h
    go false x h = refl

round_sound : (f : Format) (a b : ℕ) → Sound (round f false a b)
unfolding round
round_sound f a b =
    let n = a * 2 ^ low f in
    let k = size (n / b) - prec f in
    let u = b * 2 ^ k in
    units_sound f (nearest (n / u) (compare (n % u * 2) u)) k

sum_sound : (m d : Float) → Sound m → Sound d → Sound (add binary64 m d)
unfolding add sum
sum_sound nan d p q = p
sum_sound (inf true) d p q = absurd (true≢false p)
sum_sound (inf false) nan p q = q
sum_sound (inf false) (inf true) p q = absurd (true≢false q)
sum_sound (inf false) (inf false) p q = refl
sum_sound (inf false) (fin t n e) p q = refl
sum_sound (fin s m e) nan p q = q
sum_sound (fin s m e) (inf t) p q = q
sum_sound (fin true m e) (fin t n d) p q = absurd (true≢false p)
sum_sound (fin false m e) (fin true n d) p q = absurd (true≢false q)
sum_sound (fin false m e) (fin false n d) p q = round_sound binary64 (m * up e * down d + n * up d * down e) (down e * down d)

size_sound : (x : Float) → is_finite x ≡ true → Sound (magnitude x)
unfolding is_finite magnitude
size_sound nan h = absurd (false≢true h)
size_sound (inf s) h = absurd (false≢true h)
size_sound (fin s m e) h = refl

cost_sound : (b : Bool) (x : Float) → is_finite x ≡ true → Sound (bit_cost b x)
unfolding bit_cost
cost_sound b x h = go (b ⊕ negative x)
  where
    go : (v : Bool) → Sound (cond v (magnitude x) zero_f)
    go true = size_sound x h
    go false = refl

-- ---- sums of such
infinity_not_less : (x : Float) → lt (inf false) x ≡ false
unfolding lt
infinity_not_less nan = refl
infinity_not_less (inf s) = refl
infinity_not_less (fin s m e) = refl

infinity_plus : (d : Float) → Sound d → add binary64 (inf false) d ≡ inf false
unfolding add
infinity_plus nan h = absurd h
infinity_plus (inf true) h = absurd (true≢false h)
infinity_plus (inf false) h = refl
infinity_plus (fin s m e) h = refl

-- the test that a metric is finite changes nothing
displaces_less : (kept m d : Float) → Sound m → Sound d → displaces kept m d ≡ lt (add binary64 m d) kept
unfolding is_finite
displaces_less kept nan d p q = absurd p
displaces_less kept (inf true) d p q = absurd (true≢false p)
displaces_less kept (inf false) d p q = sym (ap (λ (x : Float). lt x kept) (infinity_plus d q) ∙ infinity_not_less kept)
displaces_less kept (fin s m e) d p q = refl

below_infinity : (c : Float) → Sound c → lt c (inf false) ≡ is_finite c
unfolding lt is_finite
below_infinity nan h = absurd h
below_infinity (inf true) h = absurd (true≢false h)
below_infinity (inf false) h = refl
below_infinity (fin s m e) h = refl

-- what is less than another is finite
less_finite : (x y : Float) → Sound x → lt x y ≡ true → is_finite x ≡ true
unfolding is_finite
less_finite nan y h e = absurd h
less_finite (inf true) y h e = absurd (true≢false h)
less_finite (inf false) y h e = absurd (false≢true (sym (infinity_not_less y) ∙ e))
less_finite (fin s m k) y h e = refl

not_finite : (c : Float) → Sound c → is_finite c ≡ false → c ≡ inf false
unfolding is_finite
not_finite nan h e = absurd h
not_finite (inf true) h e = absurd (true≢false h)
not_finite (inf false) h e = refl
not_finite (fin s m k) h e = absurd (true≢false e)

infinite : (c : Float) → Sound c → eq c (inf false) ≡ not (is_finite c)
unfolding eq is_finite
infinite nan h = absurd h
infinite (inf true) h = absurd (true≢false h)
infinite (inf false) h = refl
infinite (fin s m e) h = refl

exchanged : (b : Bool) (p : ℕ) → cond (not b) 0 p ≡ cond b p 0
exchanged true p = refl
exchanged false p = refl

kept_is_sum : (m d : Float) → Sound m → Sound d → kept_first m d ≡ add binary64 m d
kept_is_sum m d p q =
    ap (λ (v : Bool). cond v (add binary64 m d) (inf false)) (displaces_less (inf false) m d p q ∙ below_infinity (add binary64 m d) (sum_sound m d p q))
    ∙ go (is_finite (add binary64 m d)) refl
  where
    go : (v : Bool) → is_finite (add binary64 m d) ≡ v → cond v (add binary64 m d) (inf false) ≡ add binary64 m d
    go true e = refl
    go false e = sym (not_finite (add binary64 m d) (sum_sound m d p q) e)

finite_start : (m d : Float) → Sound m → Sound d → is_finite (add binary64 m d) ≡ true → is_finite m ≡ true
unfolding is_finite
finite_start nan d p q e = absurd p
finite_start (inf true) d p q e = absurd (true≢false p)
finite_start (inf false) d p q e = absurd (false≢true (sym (ap is_finite (infinity_plus d q)) ∙ e))
finite_start (fin s m k) d p q e = refl

-- ---- the search of n steps
module _ (values : List Float) (n : ℕ) (all-finite : (i : ℕ) → i < n * 2 → is_finite (get_or values i nan) ≡ true) where
  branch_sound : (k s : ℕ) (b : Bool) → k < n → Sound (soft_branch values k s b)
  unfolding pair_cost
  branch_sound k s b h =
      let o = outputs dcch (b ∷ memory_high s) in
      sum_sound (bit_cost (get_or o 0 false) (get_or values (k * 2) nan)) (bit_cost (get_or o 1 false) (get_or values (k * 2 + 1) nan))
      (cost_sound (get_or o 0 false) (get_or values (k * 2) nan) (all-finite (k * 2) (omega arith)))
      (cost_sound (get_or o 1 false) (get_or values (k * 2 + 1) nan) (all-finite (k * 2 + 1) (omega arith)))

  abbrev metric : ℕ → ℕ → Float
  metric = state_metric doubles (soft_trellis values)

  abbrev dist : ℕ → ℕ → Bool → Float
  dist k t b = soft_branch values k (pred_high t b) (newest_high.newest t)

  dist_sound : (k t : ℕ) (b : Bool) → k < n → Sound (dist k t b)
  dist_sound k t b h = branch_sound k (pred_high t b) (newest_high.newest t) h

  abbrev cand : ℕ → ℕ → Bool → Float
  cand k t b = candidate doubles (soft_trellis values) k t b

  abbrev dec : ℕ → ℕ → Bool
  dec k t = decision doubles (soft_trellis values) k t

  choose_sound : (v : Bool) (x y : Float) → Sound x → Sound y → Sound (cond v x y)
  choose_sound true x y p q = p
  choose_sound false x y p q = q

  metric_sound : (k t : ℕ) → k ≤ n → Sound (metric k t)
  unfolding state_metric
  metric_sound zero zero h = refl
  metric_sound zero (suc t) h = refl
  metric_sound (suc k) t h =
      choose_sound (dec k t) (cand k t true) (cand k t false)
      (sum_sound (metric k (pred_high t true)) (dist k t true) (metric_sound k (pred_high t true) (omega arith)) (dist_sound k t true h))
      (sum_sound (metric k (pred_high t false)) (dist k t false) (metric_sound k (pred_high t false) (omega arith)) (dist_sound k t false h))

  cand_sound : (k t : ℕ) (b : Bool) → k < n → Sound (cand k t b)
  cand_sound k t b h = sum_sound (metric k (pred_high t b)) (dist k t b) (metric_sound k (pred_high t b) (omega arith)) (dist_sound k t b h)

  -- the Rust's choice, from metrics that are the same
  module _ (k t : ℕ) (hk : k < n) (ht : t < 32) (same : (b : Bool) → rust_metric values k (pred_high t b) ≡ metric k (pred_high t b)) where
    m_sound : (b : Bool) → Sound (metric k (pred_high t b))
    m_sound b = metric_sound k (pred_high t b) (omega arith)

    kept_is : kept_first (rust_metric values k (pred_high t false)) (dist k t false) ≡ cand k t false
    kept_is = ap (λ (x : Float). kept_first x (dist k t false)) (same false) ∙ kept_is_sum (metric k (pred_high t false)) (dist k t false) (m_sound false) (dist_sound k t false hk)

    test_is : displaces (kept_first (rust_metric values k (pred_high t false)) (dist k t false)) (rust_metric values k (pred_high t true)) (dist k t true) ≡ dec k t
    test_is =
        ap₂ (λ (x y : Float). displaces x y (dist k t true)) kept_is (same true)
        ∙ displaces_less (cand k t false) (metric k (pred_high t true)) (dist k t true) (m_sound true) (dist_sound k t true hk)

    metric_step : rust_metric values (suc k) t ≡ metric (suc k) t
    unfolding rust_metric state_metric
    metric_step =
        (scan_is_next (rust_metric values k) (soft_branch values k) t ht).0
        ∙ ap (λ (v : Bool). cond v (add binary64 (rust_metric values k (pred_high t true)) (dist k t true)) (kept_first (rust_metric values k (pred_high t false)) (dist k t false))) test_is
        ∙ ap₂ (λ (x y : Float). cond (dec k t) x y) (ap (λ (x : Float). add binary64 x (dist k t true)) (same true)) kept_is

    from_is : rust_from values k t ≡ cond (dec k t) (pred_high t true) (cond (is_finite (cand k t false)) (pred_high t false) 0)
    unfolding rust_from
    from_is =
        (scan_is_next (rust_metric values k) (soft_branch values k) t ht).1
        ∙ ap₂ (λ (v w : Bool). cond v (pred_high t true) (cond w (pred_high t false) 0)) test_is
        (ap (λ (x : Float). displaces (inf false) x (dist k t false)) (same false)
        ∙ displaces_less (inf false) (metric k (pred_high t false)) (dist k t false) (m_sound false) (dist_sound k t false hk)
        ∙ below_infinity (cand k t false) (cand_sound k t false hk))

  metric_same : (k t : ℕ) → k ≤ n → t < 32 → rust_metric values k t ≡ metric k t
  unfolding rust_metric state_metric
  metric_same zero t h ht = refl
  metric_same (suc k) t h ht = metric_step k t h ht (λ b. metric_same k (pred_high t b) (omega arith) (register_high_lem.pred_below t b ht))

  -- a state on the way back is reached, or is 0; then so is the one before it, and the Rust stored it
  abbrev OnWay : ℕ → ℕ → Type 0
  OnWay j s = (is_finite (metric j s) ≡ true) ⊎ (s ≡ 0)

  module _ (k t : ℕ) (hk : k < n) (ht : t < 32) where
    same_before : (b : Bool) → rust_metric values k (pred_high t b) ≡ metric k (pred_high t b)
    same_before b = metric_same k (pred_high t b) (omega arith) (register_high_lem.pred_below t b ht)

    start_finite : (b : Bool) → is_finite (cand k t b) ≡ true → OnWay k (pred_high t b)
    start_finite b f = inl (finite_start (metric k (pred_high t b)) (dist k t b) (metric_sound k (pred_high t b) (omega arith)) (dist_sound k t b hk) f)

    reached : (v : Bool) → is_finite (cond v (cand k t true) (cand k t false)) ≡ true
        → (cond v (pred_high t true) (cond (is_finite (cand k t false)) (pred_high t false) 0) ≡ pred_high t v) × OnWay k (pred_high t v)
    reached true f = (refl, start_finite true f)
    reached false f = (ap (λ (v : Bool). cond v (pred_high t false) 0) f, start_finite false f)

    unreached : (v : Bool) → dec k t ≡ v → is_finite (cond v (cand k t true) (cand k t false)) ≡ false → t ≡ 0
        → (cond v (pred_high t true) (cond (is_finite (cand k t false)) (pred_high t false) 0) ≡ pred_high t v) × OnWay k (pred_high t v)
    unreached true e f z = absurd (false≢true (sym f ∙ less_finite (cand k t true) (cand k t false) (cand_sound k t true hk) e))
    unreached false e f z = let p : pred_high t false ≡ 0 = ap (λ (s : ℕ). pred_high s false) z in (ap (λ (v : Bool). cond v (pred_high t false) 0) f ∙ sym p, inr p)

    -- a step stores what the Rust does
    stored_is : stored_of (metric (suc k) t) (pred_high t (dec k t)) ≡ rust_from values k t
    unfolding stored_of state_metric
    stored_is = go (dec k t) refl ∙ sym (from_is k t hk ht same_before)
      where
        go : (v : Bool) → dec k t ≡ v
            → cond (eq (cond v (cand k t true) (cand k t false)) (inf false)) 0 (pred_high t v) ≡ cond v (pred_high t true) (cond (is_finite (cand k t false)) (pred_high t false) 0)
        go true e =
            ap (λ (v : Bool). cond v 0 (pred_high t true))
            (infinite (cand k t true) (cand_sound k t true hk) ∙ ap not (less_finite (cand k t true) (cand k t false) (cand_sound k t true hk) e))
        go false e = ap (λ (v : Bool). cond v 0 (pred_high t false)) (infinite (cand k t false) (cand_sound k t false hk)) ∙ exchanged (is_finite (cand k t false)) (pred_high t false)

    on_way : OnWay (suc k) t → (rust_from values k t ≡ pred_high t (dec k t)) × OnWay k (pred_high t (dec k t))
    on_way w = go (is_finite (metric (suc k) t)) refl w
      where
        both : (cond (dec k t) (pred_high t true) (cond (is_finite (cand k t false)) (pred_high t false) 0) ≡ pred_high t (dec k t)) × OnWay k (pred_high t (dec k t))
            → (rust_from values k t ≡ pred_high t (dec k t)) × OnWay k (pred_high t (dec k t))
        both p = (from_is k t hk ht same_before ∙ p.0, p.1)

        selected : metric (suc k) t ≡ cond (dec k t) (cand k t true) (cand k t false)
        selected = unfold state_metric in refl

        go : (v : Bool) → is_finite (metric (suc k) t) ≡ v → OnWay (suc k) t → (rust_from values k t ≡ pred_high t (dec k t)) × OnWay k (pred_high t (dec k t))
        go true e w = both (reached (dec k t) (sym (ap is_finite selected) ∙ e))
        go false e (inl f) = absurd (false≢true (sym e ∙ f))
        go false e (inr z) = both (unreached (dec k t) refl (sym (ap is_finite selected) ∙ e) z)

  -- what the Rust reads back is what the decided predecessors lead back along
  rust_traced : (k t : ℕ) (after : List ℕ) → k ≤ n → t < 32 → OnWay k t
      → traced highest (rust_from values) k t after ≡ traced highest (λ j s. pred_high s (dec j s)) k t after
  unfolding traced
  rust_traced zero t after h ht w = refl
  rust_traced (suc k) t after h ht w =
      let p = on_way k t h ht w in
      ap (λ (s : ℕ). traced highest (rust_from values) k s (highest t ∷ after)) p.0
      ∙ rust_traced k (pred_high t (dec k t)) (highest t ∷ after) (omega arith) (register_high_lem.pred_below t (dec k t) ht) p.1

-- ---- finite reliabilities, two to each of n steps
stored_below : (metric : Float) (chosen : ℕ) → chosen < 32 → stored_of metric chosen < 32
unfolding stored_of
stored_below metric chosen h = go (eq metric (inf false))
  where
    go : (v : Bool) → cond v 0 chosen < 32
    go true = omega arith
    go false = h

module _ (values : List Float) (n : ℕ) (long : n * 2 ≤ length values) (all : all_finite values ≡ true) where
  each : (i : ℕ) → i < n * 2 → is_finite (get_or values i nan) ≡ true
  each i l = finite_each values all i (omega arith)

  pub rust_stored : (k t : ℕ) → k < n → t < 32 → stored_of (state_metric doubles (soft_trellis values) (suc k) t) (pred_high t (decision doubles (soft_trellis values) k t)) ≡ rust_from values k t
  rust_stored k t hk ht = stored_is values n each k t hk ht

  pub rust_below : (k t : ℕ) → k < n → t < 32 → rust_from values k t < 32
  rust_below k t hk ht =
      subst (λ (s : ℕ). s < 32) (rust_stored k t hk ht)
      (stored_below (state_metric doubles (soft_trellis values) (suc k) t) _ (register_high_lem.pred_below t (decision doubles (soft_trellis values) k t) ht))

  pub rust_same : bytes (reverse (soft_word values n)) ≡ rust_bits values n
  unfolding rust_bits
  rust_same =
      sym (rust_traced values n each n 0 [] (omega arith) (omega arith) (inr refl)
      ∙ decided-traced values (λ j s. pred_high s (decision doubles (soft_trellis values) j s)) n (λ k s hk hs. refl))
