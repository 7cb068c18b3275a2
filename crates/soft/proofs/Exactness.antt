-- Where every reliability is a whole number of size at most 2 ^ 40 no sum rounds: the search over doubles is that over whole numbers, and finds the
-- first of the nearest words. Assumes nothing.
use mathlib.Core.Path.{◌≡◌, refl, sym, ap, ap₂, ◌∙◌, subst}
use mathlib.Core.Bool.{Bool, true, false, cond}
use mathlib.Core.List.{List, ◌∷◌}
use mathlib.Core.Logic.{◌⊎◌, inl, inr}
use Prim.Native.Nat.{ℕ, zero, suc, ◌+◌, ◌*◌, ◌^◌, ◌≤◌, ◌<◌, zero-le}
use native.Mathlib.Nat.{le_refl, add-zero, mul-lt-mul_of_pos_right}
use native.Mathlib.Omega.{arith}
use lib.Dec.{lit<}
use lib.ListN.{length, get_or, drop}
use lib.Ieee.{Float, nan, inf, fin, binary64, add, round, size, units, odd, of_int}
use lib.Ieee.Back.{round_whole}
use lib.Ieee.Exact.{HasValue}
use Rattle.bits.specs.Bits.{◌⊕◌, tally}
use Rattle.bits.proofs.Tally.{drop_two}
use Rattle.coding.specs.Laws.{dcch_laws}
use Rattle.coding.specs.Codes.{outputs, dcch}
use Rattle.coding.specs.Registers.{memory_high}
use Rattle.trellis.specs.Search.{First}
use Rattle.trellis.specs.Numbering.{newest_high, pred_high}
use Rattle.trellis.specs.Words.{Terminated, word_metric, branch_of}
use Rattle.trellis.specs.Trellis.{Trellis, doubles, wholes, state_metric, candidate, decision, survivor, word}
use Rattle.trellis.proofs.Registers.{register_high_lem}
use Rattle.trellis.proofs.PathWord.{leads_terminated, terminated_leads}
use Rattle.trellis.proofs.Searching.{first_to}
use Rattle.trellis.proofs.Distance as distance
use Rattle.trellis.proofs.Doubles.{add_value, as_double, doubles_count}
use Rattle.trellis.proofs.Embed as embed
use Rattle.trellis.proofs.FixedStart as fixed
use Rattle.soft.specs.Reliability.{zero_f, magnitude, negative, bit_cost, sign_f, size_f, WholeWithin, AllWhole, whole_cost}
use Rattle.soft.specs.Branch.{pair_cost, output_bit, soft_branch, start_in0, soft_start, soft_trellis}
use Rattle.soft.specs.Soft.{soft_word, total_cost, ExactSum, NoRounding}

-- ---- what a coded bit costs
zero_value : HasValue zero_f false 0 1
zero_value = (refl, refl)

size_value : (x : Float) (s : Bool) (a : ℕ) → HasValue x s a 1 → HasValue (magnitude x) false a 1
unfolding magnitude
size_value nan s a v = absurd v
size_value (inf t) s a v = absurd v
size_value (fin t m e) s a v = (refl, v.1)

module _ (bit : Bool) (x : Float) (b : ℕ) (w : WholeWithin b x) where
  cost_value : HasValue (bit_cost bit x) false (whole_cost bit x) 1
  unfolding bit_cost whole_cost
  cost_value = go (bit ⊕ negative x)
    where
      go : (q : Bool) → HasValue (cond q (magnitude x) zero_f) false (cond q (size_f x) 0) 1
      go true = size_value x (sign_f x) (size_f x) w.whole
      go false = zero_value

  cost_le : whole_cost bit x ≤ b
  unfolding whole_cost
  cost_le = go (bit ⊕ negative x)
    where
      go : (q : Bool) → cond q (size_f x) 0 ≤ b
      go true = w.small
      go false = zero-le

-- ---- sums of whole numbers
sum_value : (u v : Float) (a c : ℕ) → HasValue u false a 1 → HasValue v false c 1 → a + c ≤ 2 ^ 53 → HasValue (add binary64 u v) false (a + c) 1
sum_value u v a c p q h = subst (λ (z : Float). HasValue z false (a + c) 1) (sym (add_value binary64 u v a c p q)) (round_whole binary64 false (a + c) h)

-- a whole number of at most b, or infinity
record AtMost (b : ℕ) (u : Float) : Type 0 where
  pub number : ℕ
  pub value : HasValue u false number 1
  pub small : number ≤ b

abbrev UpTo : ℕ → Float → Type 0
UpTo b u = AtMost b u ⊎ (u ≡ inf false)

choose : {b : ℕ} {u v : Float} (c : Bool) → UpTo b u → UpTo b v → UpTo b (cond c u v)
choose true p q = p
choose false p q = q

-- ---- the search of n steps
module _ (values : List Float) (n : ℕ) (twice : length values ≡ n * 2) (h5 : 5 ≤ n) (short : n < 4096) (whole : AllWhole values) where
  abbrev branch : ℕ → ℕ → Bool → ℕ
  branch = branch_of dcch memory_high whole_cost values

  abbrev x : ℕ → Float
  x k = get_or values (k * 2) nan

  abbrev y : ℕ → Float
  y k = get_or values (k * 2 + 1) nan

  first_whole : (k : ℕ) → k < n → WholeWithin (2 ^ 40) (x k)
  first_whole k h = whole (k * 2) (omega arith)

  second_whole : (k : ℕ) → k < n → WholeWithin (2 ^ 40) (y k)
  second_whole k h = whole (k * 2 + 1) (omega arith)

  -- what was received of a step
  received : (k : ℕ) → k < n → drop (k * 2) values ≡ x k ∷ y k ∷ drop (k * 2 + 2) values
  received k h = drop_two values (k * 2) nan (omega arith)

  branch_sum : (k s : ℕ) (b : Bool) → k < n → branch k s b ≡ whole_cost (output_bit s b 0) (x k) + whole_cost (output_bit s b 1) (y k)
  unfolding branch_of tally
  branch_sum k s b h =
      ap (tally whole_cost (outputs dcch (b ∷ memory_high s))) (received k h)
      ∙ ap (λ (z : ℕ). whole_cost (output_bit s b 0) (x k) + z) (add-zero (whole_cost (output_bit s b 1) (y k)))

  branch_same : (k s : ℕ) (b : Bool) → k < n → s < 32 → soft_branch values k s b ≡ as_double (branch k s b)
  unfolding pair_cost of_int
  branch_same k s b hk hs =
      add_value binary64 (bit_cost (output_bit s b 0) (x k)) (bit_cost (output_bit s b 1) (y k)) (whole_cost (output_bit s b 0) (x k)) (whole_cost (output_bit s b 1) (y k))
      (cost_value (output_bit s b 0) (x k) (2 ^ 40) (first_whole k hk)) (cost_value (output_bit s b 1) (y k) (2 ^ 40) (second_whole k hk))
      ∙ ap as_double (sym (branch_sum k s b hk))

  branch_le : (k s : ℕ) (b : Bool) → k < n → s < 32 → branch k s b ≤ 2 ^ 41
  branch_le k s b hk hs =
      omega (arith, branch_sum k s b hk, cost_le (output_bit s b 0) (x k) (2 ^ 40) (first_whole k hk), cost_le (output_bit s b 1) (y k) (2 ^ 40) (second_whole k hk))

  room : n * 2 ^ 41 < 2 ^ 53
  room = mul-lt-mul_of_pos_right short (lit< tt)

  abbrev start : ℕ → ℕ
  start = start_in0 0 (2 ^ 53)

  start_stands : (s : ℕ) → s < 32 → embed.Stands as_double (inf false) (2 ^ 53) 0 (soft_start s) (start s)
  start_stands zero h = inl (zero-le, (unfold of_int round size units odd in refl))
  start_stands (suc s) h = inr (le_refl (2 ^ 53), refl)

  start_dear : (r : ℕ) → r < 32 → (r ≡ 0 → ⊥) → 2 ^ 53 ≤ start r
  start_dear zero h ne = absurd (ne refl)
  start_dear (suc r) h ne = le_refl (2 ^ 53)

  from_zero : fixed.FixedStart newest_high branch start 0 n (2 ^ 53) (2 ^ 41)
  from_zero = record { free = refl; dear = start_dear; cheap = branch_le; room = room }

  abbrev X : Trellis ℕ
  X = record { numbering = newest_high; branch = branch; start = start }

  survivor_same : survivor doubles (soft_trellis values) n 0 ≡ survivor wholes X n 0
  survivor_same =
      embed.survivor_same doubles (2 ^ 53) as_double (inf false) doubles_count newest_high register_high_lem (soft_branch values) soft_start branch start n (2 ^ 41)
      (record { starts = start_stands; branches = branch_same; cheap = branch_le; room = room })
      n 0 (le_refl n) (lit< tt) (fixed.reached newest_high register_high_lem branch start 0 0 n (2 ^ 53) (2 ^ 41) (lit< tt) (lit< tt) h5 from_zero)

  cost_same : (u : List Bool) → word_metric newest_high branch 0 u ≡ total_cost values u
  unfolding total_cost
  cost_same u = distance.distance newest_high register_high_lem dcch dcch_laws.six whole_cost values 0 u (lit< tt)

  pub soft_nearest : First (Terminated n) (total_cost values) (soft_word values n)
  unfolding soft_word
  soft_nearest =
      subst (λ (p : List Bool). First (Terminated n) (total_cost values) (word newest_high 0 p)) (sym survivor_same)
      (first_to (leads_terminated newest_high register_high_lem refl n h5) (terminated_leads newest_high register_high_lem refl n h5) (λ u h. cost_same u) (word newest_high 0 (survivor wholes X n 0))
      (fixed.survivor_is_first newest_high register_high_lem branch start 0 0 n (2 ^ 53) (2 ^ 41) (lit< tt) (lit< tt) h5 from_zero))

  -- ---- no sum rounds
  first_value : (k s : ℕ) (b : Bool) → k < n → HasValue (bit_cost (output_bit s b 0) (x k)) false (whole_cost (output_bit s b 0) (x k)) 1
  first_value k s b h = cost_value (output_bit s b 0) (x k) (2 ^ 40) (first_whole k h)

  second_value : (k s : ℕ) (b : Bool) → k < n → HasValue (bit_cost (output_bit s b 1) (y k)) false (whole_cost (output_bit s b 1) (y k)) 1
  second_value k s b h = cost_value (output_bit s b 1) (y k) (2 ^ 40) (second_whole k h)

  branch_value : (k s : ℕ) (b : Bool) → k < n → s < 32 → HasValue (soft_branch values k s b) false (branch k s b) 1
  unfolding pair_cost
  branch_value k s b hk hs =
      subst (λ (m : ℕ). HasValue (soft_branch values k s b) false m 1) (sym (branch_sum k s b hk))
      (sum_value _ _ _ _ (first_value k s b hk) (second_value k s b hk) (omega (arith, branch_sum k s b hk, branch_le k s b hk hs)))

  abbrev metric : ℕ → ℕ → Float
  metric k t = state_metric doubles (soft_trellis values) k t

  candidate_up_to : (k t : ℕ) (b : Bool) → k < n → t < 32 → UpTo (k * 2 ^ 41) (metric k (pred_high t b)) → UpTo (suc k * 2 ^ 41) (candidate doubles (soft_trellis values) k t b)
  candidate_up_to k t b hk ht (inl r) =
      let p : ℕ = pred_high t b in
      let hp : p < 32 = register_high_lem.pred_below t b ht in
      inl (record {
        number = r.number + branch k p (newest_high.newest t);
        value = sum_value _ _ _ _ r.value (branch_value k p (newest_high.newest t) hk hp) (omega (arith, r.small, branch_le k p (newest_high.newest t) hk hp, short));
        small = omega (arith, r.small, branch_le k p (newest_high.newest t) hk hp);
      })
  candidate_up_to k t b hk ht (inr e) =
      let p : ℕ = pred_high t b in
      let hp : p < 32 = register_high_lem.pred_below t b ht in
      inr (ap₂ (add binary64) e (branch_same k p (newest_high.newest t) hk hp) ∙ doubles_count.plus_unreachable (branch k p (newest_high.newest t)) (omega (arith, branch_le k p (newest_high.newest t) hk hp)))

  metric_up_to : (k t : ℕ) → k ≤ n → t < 32 → UpTo (k * 2 ^ 41) (metric k t)
  unfolding state_metric
  metric_up_to zero zero hk ht = inl (record { number = 0; value = zero_value; small = omega arith })
  metric_up_to zero (suc t) hk ht = inr refl
  metric_up_to (suc k) t hk ht =
      choose (decision doubles (soft_trellis values) k t)
      (candidate_up_to k t true hk ht (metric_up_to k (pred_high t true) (omega arith) (register_high_lem.pred_below t true ht)))
      (candidate_up_to k t false hk ht (metric_up_to k (pred_high t false) (omega arith) (register_high_lem.pred_below t false ht)))

  sum_exact : (k s : ℕ) (b : Bool) → k < n → s < 32 → UpTo (k * 2 ^ 41) (metric k s) → (metric k s ≡ inf false) ⊎ ExactSum (metric k s) (soft_branch values k s b)
  sum_exact k s b hk hs (inl r) =
      inr (record {
        one = r.number;
        other = branch k s b;
        left = r.value;
        right = branch_value k s b hk hs;
        total = sum_value _ _ _ _ r.value (branch_value k s b hk hs) (omega (arith, r.small, branch_le k s b hk hs, short));
      })
  sum_exact k s b hk hs (inr e) = inl e

  pub no_rounding : NoRounding values n
  no_rounding =
      record {
        pairs = λ k s b h. record {
          one = whole_cost (output_bit s b 0) (x k);
          other = whole_cost (output_bit s b 1) (y k);
          left = first_value k s b h;
          right = second_value k s b h;
          total = sum_value _ _ _ _ (first_value k s b h) (second_value k s b h)
              (omega (arith, cost_le (output_bit s b 0) (x k) (2 ^ 40) (first_whole k h), cost_le (output_bit s b 1) (y k) (2 ^ 40) (second_whole k h)));
        };
        metrics = λ k s b hk hs. sum_exact k s b hk hs (metric_up_to k s (omega arith) hs);
      }
