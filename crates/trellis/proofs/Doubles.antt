-- Doubles count as whole numbers do below 2 ^ 53: their sums and their order are those of the numbers, and infinity stands for unreachable.
-- Assumes nothing.
use mathlib.Core.Path.{◌≡◌, refl, sym, ap, ◌∙◌}
use mathlib.Core.Bool.{Bool, true, false, true≢false}
use Prim.Native.Nat.{ℕ, ◌+◌, ◌*◌, ◌^◌, ◌≤◌, ◌<◌}
use native.Mathlib.Nat.{mul-one, mul-add, mul_assoc, mul_comm, mul_left_comm, mul-pos, zero-lt-suc, lt_of_mul-lt-mul_right, mul-lt-mul_of_pos_right}
use native.Mathlib.Omega.{arith}
use lib.IntN.{pos}
use lib.Dec.{T, ltb, ltb→lt, lt→ltb}
use lib.Ieee.{Float, nan, inf, fin, Format, binary64, prec, up, down, round, sum, add, lt, of_int}
use lib.Ieee.Fits.{down_pos}
use lib.Ieee.Exact.{HasValue}
use lib.Ieee.Back.{round_whole}
use lib.Ieee.Scale.{round_same}
use Rattle.trellis.specs.Trellis.{doubles}
use Rattle.trellis.proofs.Embed.{Counts}

joined : (x y p q a b : ℕ) → x * 1 ≡ a * p → y * 1 ≡ b * q → (x * q + y * p) * 1 ≡ (a + b) * (p * q)
joined x y p q a b h k =
    mul-one (x * q + y * p)
    ∙ ap (λ (z : ℕ). z * q + y * p) (sym (mul-one x) ∙ h)
    ∙ ap (λ (z : ℕ). a * p * q + z * p) (sym (mul-one y) ∙ k)
    ∙ simp (mul_assoc, mul_comm, mul_left_comm, mul-add)

-- the sum of two values that are whole and not negative is the float nearest to the sum
pub add_value : (f : Format) (x y : Float) (a b : ℕ) → HasValue x false a 1 → HasValue y false b 1 → add f x y ≡ round f false (a + b) 1
unfolding add sum
add_value f nan y a b v w = absurd v
add_value f (inf s) y a b v w = absurd v
add_value f (fin true m e) y a b v w = absurd (true≢false v.0)
add_value f (fin false m e) nan a b v w = absurd w
add_value f (fin false m e) (inf t) a b v w = absurd w
add_value f (fin false m e) (fin true n d) a b v w = absurd (true≢false w.0)
add_value f (fin false m e) (fin false n d) a b v w =
    round_same f false (m * up e * down d + n * up d * down e) (down e * down d) (a + b) 1 (mul-pos (down_pos e) (down_pos d)) (zero-lt-suc 0)
    (joined (m * up e) (n * up d) (down e) (down d) a b v.1 w.1)

-- no sum of whole numbers rounds twice: where both summands are counted, the float sum is the float of the sum
pub add_whole : (f : Format) (a b : ℕ) → a ≤ 2 ^ prec f → b ≤ 2 ^ prec f → add f (of_int f (pos a)) (of_int f (pos b)) ≡ of_int f (pos (a + b))
unfolding of_int
add_whole f a b h k = add_value f (round f false a 1) (round f false b 1) a b (round_whole f false a h) (round_whole f false b k)

-- ---- order
pub same_bool : (p q : Bool) → (T p → T q) → (T q → T p) → p ≡ q
same_bool true true h k = refl
same_bool true false h k = absurd (h tt)
same_bool false true h k = absurd (k tt)
same_bool false false h k = refl

pub ltb_scale : (a b k : ℕ) → 0 < k → ltb (a * k) (b * k) ≡ ltb a b
ltb_scale a b k h =
    same_bool (ltb (a * k) (b * k)) (ltb a b)
    (λ t. lt→ltb a b (lt_of_mul-lt-mul_right k (ltb→lt (a * k) (b * k) t)))
    (λ t. lt→ltb (a * k) (b * k) (mul-lt-mul_of_pos_right (ltb→lt a b t) h))

-- x / p is a, and y / q is b: at the one denominator p * q
pub crossed : (x p q a : ℕ) → x * 1 ≡ a * p → x * q ≡ a * (p * q)
crossed x p q a h = ap (λ (z : ℕ). z * q) (sym (mul-one x) ∙ h) ∙ mul_assoc a p q

pub lt_value : (x y : Float) (a b : ℕ) → HasValue x false a 1 → HasValue y false b 1 → lt x y ≡ ltb a b
unfolding lt
lt_value nan y a b v w = absurd v
lt_value (inf s) y a b v w = absurd v
lt_value (fin true m e) y a b v w = absurd (true≢false v.0)
lt_value (fin false m e) nan a b v w = absurd w
lt_value (fin false m e) (inf t) a b v w = absurd w
lt_value (fin false m e) (fin true n d) a b v w = absurd (true≢false w.0)
lt_value (fin false m e) (fin false n d) a b v w =
    ap (λ (z : ℕ). ltb z (n * up d * down e)) (crossed (m * up e) (down e) (down d) a v.1)
    ∙ ap (λ (z : ℕ). ltb (a * (down e * down d)) z) (crossed (n * up d) (down d) (down e) b w.1 ∙ ap (λ (z : ℕ). b * z) (mul_comm (down d) (down e)))
    ∙ ltb_scale a b (down e * down d) (mul-pos (down_pos e) (down_pos d))

pub lt_whole : (f : Format) (a b : ℕ) → a ≤ 2 ^ prec f → b ≤ 2 ^ prec f → lt (of_int f (pos a)) (of_int f (pos b)) ≡ ltb a b
unfolding of_int
lt_whole f a b h k = lt_value (round f false a 1) (round f false b 1) a b (round_whole f false a h) (round_whole f false b k)

-- ---- a whole number against an infinity
pub below_infinity : (x : Float) (s : Bool) (a : ℕ) → HasValue x s a 1 → lt x (inf false) ≡ true
unfolding lt
below_infinity nan s a v = absurd v
below_infinity (inf t) s a v = absurd v
below_infinity (fin t m e) s a v = refl

-- ---- a whole number as a double
abbrev pub as_double : ℕ → Float
as_double n = of_int binary64 (pos n)

value_of : (n : ℕ) → n ≤ 2 ^ 53 → HasValue (as_double n) false n 1
unfolding of_int
value_of n h = round_whole binary64 false n h

plus_infinity : (x : Float) (n : ℕ) → HasValue x false n 1 → add binary64 (inf false) x ≡ inf false
unfolding add
plus_infinity nan n v = absurd v
plus_infinity (inf s) n v = absurd v
plus_infinity (fin s m e) n v = refl

infinity_less : (x : Float) (n : ℕ) → HasValue x false n 1 → lt (inf false) x ≡ false
unfolding lt
infinity_less nan n v = absurd v
infinity_less (inf s) n v = absurd v
infinity_less (fin s m e) n v = refl

pub doubles_count : Counts doubles (2 ^ 53) as_double (inf false)
doubles_count =
    record {
      plus_at = λ a d h. add_whole binary64 a d (omega arith) (omega arith);
      plus_unreachable = λ d h. plus_infinity (as_double d) d (value_of d (omega arith));
      less_at = λ a b h k. lt_whole binary64 a b (omega arith) (omega arith);
      less_unreachable = λ a h. below_infinity (as_double a) false a (value_of a (omega arith));
      unreachable_less = λ a h. infinity_less (as_double a) a (value_of a (omega arith));
    }
