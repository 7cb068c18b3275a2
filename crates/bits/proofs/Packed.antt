-- Numbers and their bits, at any width: packing and unpacking undo each other. Assumes nothing.
use mathlib.Core.Path.{◌≡◌, refl, sym, ap, ap₂, subst, ◌∙◌}
use mathlib.Core.Bool.{Bool, true, false}
use mathlib.Core.List.{List, [], ◌∷◌, ◌++◌}
use Prim.Native.Nat.{ℕ, zero, suc, ◌+◌, ◌-◌, ◌*◌, ◌/◌, ◌%◌, ◌^◌, ◌<◌, ◌≤◌}
use native.Mathlib.Omega.{arith}
use native.Mathlib.Nat.{pow-suc, mul_assoc, mul_comm, add_assoc, add-mul, zero-mul, zero-add, mod-eq_of_lt, div-one, div-div-eq-div-mul}
use lib.Pow as pow
use native.Mathlib.Numerals.{add-one}
use lib.ListN.{length, get_or, set, take, drop, length-append, length-map, length-set}
use lib.Seq.{length-take-le, take_all, take-suc, drop-length}
use Rattle.bits.specs.Bits.{byte, bit, bytes, bits}
use Rattle.bits.specs.Numbers.{packed, unpacked}
use Rattle.bits.proofs.Filled.{drop-set_here}
use Rattle.bits.proofs.Binary.{byte-bit_any, bit_above, bits-append, bits-take, bits-drop}

pub unpacked-length : (n x : ℕ) → length (unpacked n x) ≡ n
unfolding unpacked
unpacked-length zero x = refl
unpacked-length (suc n) x = ap suc (unpacked-length n x)

pub packed_below : (w : List Bool) → packed w < 2 ^ length w
unfolding packed
packed_below [] = omega arith
packed_below (false ∷ w) = let h : packed w < 2 ^ length w = packed_below w in omega (arith, pow-suc 2 (length w))
packed_below (true ∷ w) = let h : packed w < 2 ^ length w = packed_below w in omega (arith, pow-suc 2 (length w))

-- one bit more at the end
pub packed_snoc : (w : List Bool) (b : Bool) → packed (w ++ (b ∷ [])) ≡ packed w * 2 + byte b
unfolding packed
packed_snoc [] false = refl
packed_snoc [] true = refl
packed_snoc (a ∷ w) b =
    let i : packed (w ++ (b ∷ [])) ≡ packed w * 2 + byte b = packed_snoc w b in
    let l : length (w ++ (b ∷ [])) ≡ suc (length w) = length-append w (b ∷ []) ∙ omega arith in
    let p : 2 ^ length (w ++ (b ∷ [])) ≡ 2 ^ length w * 2 = ap (λ (n : ℕ). 2 ^ n) l ∙ pow-suc 2 (length w) in
    head a p i
  where
    head : (c : Bool) → 2 ^ length (w ++ (b ∷ [])) ≡ 2 ^ length w * 2 → packed (w ++ (b ∷ [])) ≡ packed w * 2 + byte b
        → byte c * 2 ^ length (w ++ (b ∷ [])) + packed (w ++ (b ∷ [])) ≡ (byte c * 2 ^ length w + packed w) * 2 + byte b
    head false p i = omega arith
    head true p i = omega arith

-- the number that the lowest n bits of x write
pub packed-unpacked : (n x : ℕ) → packed (unpacked n x) ≡ x % 2 ^ n
unfolding packed unpacked
packed-unpacked zero x = omega arith
packed-unpacked (suc n) x =
    let i : packed (unpacked n x) ≡ x % 2 ^ n = packed-unpacked n x in
    let b : byte (bit (x / 2 ^ n)) ≡ x / 2 ^ n % 2 = byte-bit_any (x / 2 ^ n) in
    let e : x % 2 ^ suc n ≡ (x / 2 ^ n % 2) * 2 ^ n + x % 2 ^ n = ap (λ (k : ℕ). x % 2 ^ k) (sym (omega arith)) ∙ pow.mod-pow-add x 1 n in
    ap₂ (λ (a c : ℕ). a * 2 ^ length (unpacked n x) + c) b i ∙ ap (λ (k : ℕ). x / 2 ^ n % 2 * 2 ^ k + x % 2 ^ n) (unpacked-length n x) ∙ sym e

pub packed-unpacked_below : (n x : ℕ) → x < 2 ^ n → packed (unpacked n x) ≡ x
packed-unpacked_below n x h = packed-unpacked n x ∙ mod-eq_of_lt h

-- the bits of the number that w writes, with more above it
unpacked_above : (w : List Bool) (a : ℕ) → unpacked (length w) (a * 2 ^ length w + packed w) ≡ w
unfolding packed unpacked
unpacked_above [] a = refl
unpacked_above (b ∷ w) a =
    let p : 2 ^ suc (length w) ≡ 2 ^ length w * 2 = pow-suc 2 (length w) in
    let e : a * 2 ^ suc (length w) + (byte b * 2 ^ length w + packed w) ≡ (a * 2 + byte b) * 2 ^ length w + packed w = regroup a (byte b) (2 ^ length w) (packed w) p in
    let q : (a * 2 ^ suc (length w) + (byte b * 2 ^ length w + packed w)) / 2 ^ length w ≡ a * 2 + byte b =
    ap (λ (x : ℕ). x / 2 ^ length w) e ∙ pow.high (a * 2 + byte b) (length w) (packed_below w) in
    ap₂ (λ (x : Bool) (l : List Bool). x ∷ l) (ap bit q ∙ bit_above a b)
    (ap (unpacked (length w)) e ∙ unpacked_above w (a * 2 + byte b))
  where
    regroup : (a c m r : ℕ) → 2 ^ suc (length w) ≡ m * 2 → a * 2 ^ suc (length w) + (c * m + r) ≡ (a * 2 + c) * m + r
    regroup a c m r p =
        ap (λ (x : ℕ). a * x + (c * m + r)) (p ∙ mul_comm m 2) ∙ sym (add_assoc (a * (2 * m)) (c * m) r)
        ∙ ap (λ (x : ℕ). x + c * m + r) (sym (mul_assoc a 2 m)) ∙ ap (λ (x : ℕ). x + r) (sym (add-mul (a * 2) c m))

pub unpacked-packed : (w : List Bool) → unpacked (length w) (packed w) ≡ w
unpacked-packed w = ap (unpacked (length w)) (sym (ap (λ (x : ℕ). x + packed w) (zero-mul (2 ^ length w)) ∙ zero-add (packed w))) ∙ unpacked_above w 0

-- ---- the loop of `pack`
pub record Packing (s : List ℕ) (value k : ℕ) : Type 0 where
  pub low : k ≤ length s
  pub so_far : value ≡ packed (bits (take k s))

pub packing_none : (s : List ℕ) → Packing s 0 0
unfolding packed
packing_none s = record { low = omega arith; so_far = refl }

module _ {s : List ℕ} {value k : ℕ} (i : Packing s value k) where
  -- the value doubled, and one bit more, fit in 64 bits
  pub packing_room : length s ≤ 64 → k < length s → value * 2 + 2 ≤ 2 ^ 64
  packing_room h l =
      let e : length (bits (take k s)) ≡ k = length-map (take k s) bit ∙ length-take-le k s (omega arith) in
      let b : packed (bits (take k s)) < 2 ^ k = subst (λ (n : ℕ). packed (bits (take k s)) < 2 ^ n) e (packed_below (bits (take k s))) in
      let p : 2 ^ k ≤ 2 ^ 63 = pow.pow_mono {i = k} {j = 63} (omega arith) in
      omega (arith, i.so_far)

  pub packing_more : (x : ℕ) → x ≡ get_or s k 0 % 2 → k < length s → Packing s (value * 2 + x) (k + 1)
  packing_more x ex l =
      record {
        low = omega arith;
        so_far =
            ap₂ (λ (n y : ℕ). n * 2 + y) i.so_far (ex ∙ sym (byte-bit_any (get_or s k 0)))
            ∙ sym (packed_snoc (bits (take k s)) (bit (get_or s k 0))) ∙ ap packed (sym (bits-append (take k s) (get_or s k 0 ∷ [])))
            ∙ ap (λ (l : List ℕ). packed (bits l)) (sym (take-suc s k 0 l) ∙ ap (λ (n : ℕ). take n s) (sym (add-one k)));
      }

  pub packing_done : length s ≤ k → value ≡ packed (bits s)
  packing_done h = i.so_far ∙ ap (λ (l : List ℕ). packed (bits l)) (take_all k s h)

-- ---- the loop of `unpack`: the places from k on hold the lowest bits
pub record Unpacking (value : ℕ) (s₀ s : List ℕ) (rest k : ℕ) : Type 0 where
  pub size : length s ≡ length s₀
  pub low : k ≤ length s₀
  pub left : rest ≡ value / 2 ^ (length s₀ - k)
  pub written : drop k s ≡ bytes (unpacked (length s₀ - k) value)

pub unpacking_none : (value : ℕ) (s : List ℕ) → Unpacking value s s value (length s)
unfolding unpacked
unpacking_none value s =
    let e : length s - length s ≡ 0 = omega arith in
    record {
      size = refl;
      low = omega arith;
      left = sym (ap (λ (n : ℕ). value / 2 ^ n) e ∙ div-one value);
      written = drop-length s ∙ ap (λ (n : ℕ). bytes (unpacked n value)) (sym e);
    }

module _ {value : ℕ} {s₀ s : List ℕ} {rest k : ℕ} (i : Unpacking value s₀ s rest k) where
  pub unpacking_more : {x : ℕ} → x ≡ byte (bit rest) → 0 < k → Unpacking value s₀ (set s (k - 1) x) (rest / 2) (k - 1)
  unfolding unpacked
  unpacking_more {x} written h =
      let m : ℕ = length s₀ - k in
      let e : length s₀ - (k - 1) ≡ suc m = omega (arith, i.low) in
      let f : suc (k - 1) ≡ k = omega arith in
      let p : 2 ^ suc m ≡ 2 ^ m * 2 = pow-suc 2 m in
      record {
        size = length-set s (k - 1) x ∙ i.size;
        low = omega (arith, i.low);
        left = ap (λ (n : ℕ). n / 2) i.left ∙ div-div-eq-div-mul value (2 ^ m) 2 ∙ sym (ap (λ (n : ℕ). value / 2 ^ n) e ∙ ap (λ (n : ℕ). value / n) p);
        written =
            drop-set_here s (k - 1) x (omega (arith, i.size, i.low))
            ∙ ap₂ (λ (y : ℕ) (l : List ℕ). y ∷ l) (written ∙ ap (λ (n : ℕ). byte (bit n)) i.left)
            (ap (λ (n : ℕ). drop n s) f ∙ i.written)
            ∙ ap (λ (n : ℕ). bytes (unpacked n value)) (sym e);
      }

  pub unpacking_done : k ≤ 0 → s ≡ bytes (unpacked (length s₀) value)
  unpacking_done h =
      let e : k ≡ 0 = omega arith in
      let f : length s₀ - k ≡ length s₀ = omega arith in
      ap (λ (n : ℕ). drop n s) (sym e) ∙ i.written ∙ ap (λ (n : ℕ). bytes (unpacked n value)) f

-- ---- numbers in a list
-- the n bytes from a place on, as bits
pub part_bits : (n at : ℕ) (l : List ℕ) → bits (take (at + n - at) (drop at l)) ≡ take n (drop at (bits l))
part_bits n at l =
    let e : at + n - at ≡ n = omega arith in
    bits-take (at + n - at) (drop at l) ∙ ap₂ (λ (k : ℕ) (u : List Bool). take k u) e (bits-drop at l)
