-- Registers as numbers and as bits, at any width: the highest bit is a quotient, the others doubled are a remainder doubled, and `^` adds
-- bits of one length. Assumes nothing.
use mathlib.Core.Path.{◌≡◌, refl, sym, ap, ap₂, subst, ◌∙◌}
use mathlib.Core.Bool.{Bool, true, false, cond}
use mathlib.Core.List.{List, [], ◌∷◌, ◌++◌}
use Prim.Native.Nat.{ℕ, zero, suc, ◌+◌, ◌*◌, ◌/◌, ◌-◌, ◌%◌, ◌^◌, ◌<◌, ◌≤◌}
use native.Mathlib.Omega.{arith}
use native.Mathlib.Nat.{pow-suc, add-zero, zero-div}
use native.Mathlib.Numerals.{add-one}
use lib.Dec.{T, eqb, eqb→eq}
use lib.Pow.{shr_lt}
use lib.Bits.{bit_xor, xor_block, xor_comm}
use lib.ListN.{length, replicate, length-append, get_or, drop, drop_of_length-le}
use lib.Seq.{drop-cons}
use borrow.Author.Tests.{ne_eqb}
use Rattle.bits.proofs.Tested.{below}
use Rattle.bits.specs.Bits.{byte, bit, bits, ◌⊕◌}
use Rattle.bits.specs.Numbers.{packed, unpacked}
use Rattle.bits.proofs.Binary.{bit_low, byte_one, bit_one, differ_other}
use Rattle.bits.proofs.Packed.{unpacked-length, packed_below, packed_snoc, packed-unpacked, packed-unpacked_below, unpacked-packed}
use Rattle.checksums.specs.Checksums.{added, remainder, check_bits}
use Rattle.checksums.specs.Feedback.{stepped, machine, register_after}
use Rattle.checksums.proofs.Division.{sum_self, added-length, stepped-length, machine-length, machine-append, machine-remainder, machine-check_bits}

byte_sum : (a b : Bool) → byte (a ⊕ b) ≡ bit_xor (byte a) (byte b)
byte_sum false b = refl
byte_sum true false = refl
byte_sum true true = refl

-- the number of a sum, of lists of one length
pub packed-added : (g l : List Bool) → length g ≡ length l → packed (added g l) ≡ bit_xor (packed g) (packed l)
unfolding packed added
packed-added [] [] e = refl
packed-added [] (b ∷ l) e = let z : ⊥ = omega arith in absurd z
packed-added (a ∷ g) [] e = let z : ⊥ = omega arith in absurd z
packed-added (a ∷ g) (b ∷ l) e =
    let d : length g ≡ length l = omega arith in
    let h : packed g < 2 ^ length l = subst (λ (n : ℕ). packed g < 2 ^ n) d (packed_below g) in
    ap₂ (λ (n y : ℕ). byte (a ⊕ b) * 2 ^ n + y) (added-length g l) (packed-added g l d)
    ∙ ap (λ (y : ℕ). y * 2 ^ length l + bit_xor (packed g) (packed l)) (byte_sum a b)
    ∙ sym (xor_block (length l) (byte a) (byte b) (packed g) (packed l) h (packed_below l))
    ∙ ap (λ (n : ℕ). bit_xor (byte a * 2 ^ n + packed g) (byte b * 2 ^ length l + packed l)) (sym d)

-- ---- the feedback
sum_same : (a b : ℕ) → a ≡ b → bit a ⊕ bit b ≡ false
sum_same a b e = ap (λ (x : ℕ). bit x ⊕ bit b) e ∙ sum_self (bit b)

sum_other : (a b : ℕ) → a < 2 → b < 2 → (a ≡ b → ⊥) → bit a ⊕ bit b ≡ true
sum_other a b ha hb n = byte_one (bit a ⊕ bit b) true (differ_other (bit a) (bit b) (λ e. n (bit_one a b ha hb e)))

-- ---- one step of `shifted_in`
-- the register moved up
moved_up : (m x : ℕ) → packed (unpacked m x ++ (false ∷ [])) ≡ x % 2 ^ m * 2
moved_up m x = packed_snoc (unpacked m x) false ∙ add-zero (packed (unpacked m x) * 2) ∙ ap (λ (y : ℕ). y * 2) (packed-unpacked m x)

-- its highest bit is of the weight 2 ^ m
highest : (m top : ℕ) → 2 ^ suc m ≡ top * 2 → top ≡ 2 ^ m
highest m top e = omega (arith, pow-suc 2 m)

-- the weight of the highest of n bits, as `shifted_in` computes it
abbrev pub top_of : ℕ → ℕ
top_of n = 1 * 2 ^ (n - 1) % 65536

top_right : ℕ → Bool
top_right n = cond (eqb n 0) true (eqb (2 ^ n) (top_of n * 2))

pub top_width : (n : ℕ) → 0 < n → n ≤ 16 → 2 ^ n ≡ top_of n * 2
unfolding top_right
top_width n h k =
    let t : T (cond (eqb n 0) true (eqb (2 ^ n) (top_of n * 2))) = below top_right 17 tt n (omega arith) in
    eqb→eq (2 ^ n) (top_of n * 2) (subst (λ (b : Bool). T (cond b true (eqb (2 ^ n) (top_of n * 2)))) (ne_eqb n 0 (λ e. absurd_zero n e h)) t)
  where
    absurd_zero : (m : ℕ) → m ≡ 0 → 0 < m → ⊥
    absurd_zero m e z = let c : ⊥ = omega arith in c

pub shifted_same : (top p x i n : ℕ) → 0 < n → 2 ^ n ≡ top * 2 → x / top ≡ i → x % top * 2 ≡ packed (stepped (unpacked n p) (unpacked n x) (bit i))
unfolding unpacked stepped
shifted_same top p x i zero z w h = let e : ⊥ = omega arith in absurd e
shifted_same top p x i (suc m) z w h =
    let e : top ≡ 2 ^ m = highest m top w in
    let f : bit (x / 2 ^ m) ⊕ bit i ≡ false = sum_same (x / 2 ^ m) i (ap (λ (t : ℕ). x / t) (sym e) ∙ h) in
    let r : List Bool = unpacked m x ++ (false ∷ []) in
    ap (λ (t : ℕ). x % t * 2) e ∙ sym (moved_up m x) ∙ ap (λ (b : Bool). packed (cond b (added (unpacked (suc m) p) r) r)) (sym f)

pub shifted_other : (top p x i n : ℕ) → 0 < n → 2 ^ n ≡ top * 2 → p < 2 ^ n → x < 2 ^ n → i < 2 → (x / top ≡ i → ⊥)
    → bit_xor (x % top * 2) p ≡ packed (stepped (unpacked n p) (unpacked n x) (bit i))
unfolding unpacked stepped
shifted_other top p x i zero z w d v b h = let e : ⊥ = omega arith in absurd e
shifted_other top p x i (suc m) z w d v b h =
    let e : top ≡ 2 ^ m = highest m top w in
    let q : x / 2 ^ m < 2 = shr_lt 1 m (subst (λ (k : ℕ). x < 2 ^ k) (omega arith) v) in
    let f : bit (x / 2 ^ m) ⊕ bit i ≡ true = sum_other (x / 2 ^ m) i q b (λ c. h (ap (λ (t : ℕ). x / t) e ∙ c)) in
    let r : List Bool = unpacked m x ++ (false ∷ []) in
    let l : length (unpacked (suc m) p) ≡ length r = omega (arith, unpacked-length (suc m) p, length-append (unpacked m x) (false ∷ []), unpacked-length m x) in
    ap₂ bit_xor (ap (λ (t : ℕ). x % t * 2) e ∙ sym (moved_up m x)) (sym (packed-unpacked_below (suc m) p d))
    ∙ xor_comm (packed r) (packed (unpacked (suc m) p))
    ∙ sym (packed-added (unpacked (suc m) p) r l)
    ∙ ap (λ (b : Bool). packed (cond b (added (unpacked (suc m) p) r) r)) (sym f)

-- ---- the register after some bits
-- a list of n bits is that of its number
pub bits_again : (n : ℕ) (w : List Bool) → length w ≡ n → unpacked n (packed w) ≡ w
bits_again n w e = ap (λ (k : ℕ). unpacked k (packed w)) (sym e) ∙ unpacked-packed w

below_width : (n : ℕ) (w : List Bool) → length w ≡ n → packed w < 2 ^ n
below_width n w e = subst (λ (k : ℕ). packed w < 2 ^ k) e (packed_below w)

unpacked_zero : (n : ℕ) → unpacked n 0 ≡ replicate n false
unfolding unpacked
unpacked_zero zero = refl
unpacked_zero (suc n) = ap₂ (λ (b : Bool) (w : List Bool). b ∷ w) (ap bit (zero-div (2 ^ n))) (unpacked_zero n)

pub after-machine : (n p x : ℕ) (u : List Bool) → register_after n p x u ≡ packed (machine (unpacked n p) (unpacked n x) u)
unfolding register_after
after-machine n p x u =
    let g : length (unpacked n p) ≡ n = unpacked-length n p in
    ap (λ (k : ℕ). packed (remainder (unpacked n p) (added (unpacked k x) (u ++ replicate (length (unpacked n p)) false)))) g
    ∙ ap packed (sym (machine-remainder (unpacked n p) (unpacked n x) u (unpacked-length n x ∙ sym g)))

machine_width : (n p x : ℕ) (u : List Bool) → length (machine (unpacked n p) (unpacked n x) u) ≡ n
machine_width n p x u = machine-length (unpacked n p) (unpacked n x) u ∙ unpacked-length n x

-- the register's bits
after-bits : (n p x : ℕ) (u : List Bool) → unpacked n (register_after n p x u) ≡ machine (unpacked n p) (unpacked n x) u
after-bits n p x u = ap (unpacked n) (after-machine n p x u) ∙ bits_again n (machine (unpacked n p) (unpacked n x) u) (machine_width n p x u)

pub after_below : (n p x : ℕ) (u : List Bool) → register_after n p x u < 2 ^ n
after_below n p x u =
    subst (λ (y : ℕ). y < 2 ^ n) (sym (after-machine n p x u)) (below_width n (machine (unpacked n p) (unpacked n x) u) (machine_width n p x u))

-- over two runs, one after the other
pub after-append : (n p x : ℕ) (u v : List Bool) → register_after n p (register_after n p x u) v ≡ register_after n p x (u ++ v)
after-append n p x u v =
    after-machine n p (register_after n p x u) v ∙ ap (λ (r : List Bool). packed (machine (unpacked n p) r v)) (after-bits n p x u)
    ∙ ap packed (sym (machine-append (unpacked n p) (unpacked n x) u v)) ∙ sym (after-machine n p x (u ++ v))

-- from zero it is the checksum
pub after_zero : (n p : ℕ) (u : List Bool) → register_after n p 0 u ≡ packed (check_bits (unpacked n p) u)
after_zero n p u =
    after-machine n p 0 u
    ∙ ap (λ (r : List Bool). packed (machine (unpacked n p) r u))
    (unpacked_zero n ∙ ap (λ (k : ℕ). replicate k false) (sym (unpacked-length n p)))
    ∙ ap packed (machine-check_bits (unpacked n p) u)

-- a byte's lowest bit goes in
pub low_input : (n p x i : ℕ) → packed (stepped (unpacked n p) (unpacked n x) (bit (i % 2))) ≡ packed (stepped (unpacked n p) (unpacked n x) (bit i))
low_input n p x i = ap (λ (b : Bool). packed (stepped (unpacked n p) (unpacked n x) b)) (bit_low i)

-- ---- the loop of `run`: the bits from k on, into the register as it is now, end where all of them end
pub record Running (n p x₀ : ℕ) (s : List ℕ) (x k : ℕ) : Type 0 where
  pub low : k ≤ length s
  pub fits : x < 2 ^ n
  pub rest : machine (unpacked n p) (unpacked n x) (bits (drop k s)) ≡ machine (unpacked n p) (unpacked n x₀) (bits s)

pub running_none : (n p x : ℕ) (s : List ℕ) → x < 2 ^ n → Running n p x s x 0
running_none n p x s h = record { low = omega arith; fits = h; rest = refl }

module _ {n p x₀ : ℕ} {s : List ℕ} {x k : ℕ} (i : Running n p x₀ s x k) where
  next : List Bool
  next = stepped (unpacked n p) (unpacked n x) (bit (get_or s k 0))

  next_width : length next ≡ n
  unfolding next
  next_width = stepped-length (unpacked n p) (unpacked n x) (bit (get_or s k 0)) ∙ unpacked-length n x

  pub running_more : (y : ℕ) → k < length s → y ≡ packed (stepped (unpacked n p) (unpacked n x) (bit (get_or s k 0))) → Running n p x₀ s y (k + 1)
  unfolding machine next
  running_more y h e =
      record {
        low = omega arith;
        fits = subst (λ (r : ℕ). r < 2 ^ n) (sym e) (below_width n next next_width);
        rest =
            ap₂ (λ (r : List Bool) (j : ℕ). machine (unpacked n p) r (bits (drop j s)))
            (ap (unpacked n) e ∙ bits_again n next next_width) (add-one k)
            ∙ ap (λ (l : List ℕ). machine (unpacked n p) (unpacked n x) (bits l)) (sym (drop-cons s k 0 h)) ∙ i.rest;
      }

  pub running_done : length s ≤ k → x ≡ register_after n p x₀ (bits s)
  unfolding machine
  running_done h =
      sym (packed-unpacked_below n x i.fits)
      ∙ ap (λ (l : List ℕ). packed (machine (unpacked n p) (unpacked n x) (bits l))) (sym (drop_of_length-le s h))
      ∙ ap packed i.rest ∙ sym (after-machine n p x₀ (bits s))
