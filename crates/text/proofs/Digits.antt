-- Digits written from the last to the first, and counted. Assumes nothing.
use mathlib.Core.Path.{◌≡◌, refl, sym, ap, subst, ◌∙◌}
use mathlib.Core.List.{List, [], ◌∷◌}
use Prim.Native.Nat.{ℕ, zero, suc, ◌+◌, ◌-◌, ◌*◌, ◌/◌, ◌%◌, ◌^◌, ◌≤◌, ◌<◌}
use native.Mathlib.Nat.{not-suc-le-zero, add-suc, add-zero}
use native.Mathlib.Numerals.{sub-one, add-one}
use native.Mathlib.Omega.{arith}
use borrow.Author.Tests.{lt-ltb, le-ltb}
use lib.ListN.{length, take, drop, get_or, set, length-append, length-set}
use lib.Seq.{sets, set_comm, take-take, take_at, get_or-take, get_or_at, drop-cons, take-length, drop-length}
use Rattle.std.proofs.Math.Nat.{one-le-pow, pow-succ'}
use Rattle.text.specs.Writing.{Put}
use Rattle.text.specs.Numerals.{glyph, digits, decimal, hexadecimal, places_in}
use Rattle.text.proofs.Stored.{put_then}

pub length_digits : (b k n : ℕ) → length (digits b k n) ≡ k
unfolding digits
length_digits b zero n = refl
length_digits b (suc k) n = length-append (digits b k (n / b)) (glyph (n % b) ∷ []) ∙ ap (λ (m : ℕ). m + 1) (length_digits b k (n / b)) ∙ add-one k

-- ---- the loop that writes them, the last first
-- an earlier store goes before later ones
set_sets : (vs l : List ℕ) (i j v : ℕ) → j < i → set (sets l i vs) j v ≡ sets (set l j v) i vs
set_sets [] l i j v h = refl
set_sets (w ∷ vs) l i j v h =
    set_sets vs (set l i w) (suc i) j v (omega arith)
    ∙ ap (λ (x : List ℕ). sets x (suc i) vs) (set_comm l i j w v (λ e. omega arith))

-- i of the k digits are left to write, those of `rest`
pub record Left (b k n : ℕ) (l : List ℕ) (at i rest : ℕ) (out : List ℕ) : Type 0 where
  pub low : i ≤ k
  pub long : length out ≡ length l
  pub ahead : take i (digits b k n) ≡ digits b i rest
  pub behind : out ≡ sets l (at + i) (drop i (digits b k n))

module _ {b k n at : ℕ} {l : List ℕ} where
  pub left_all : Left b k n l at k n l
  left_all =
      let e : k ≡ length (digits b k n) = sym (length_digits b k n) in
      record {
        low = omega arith;
        long = refl;
        ahead = ap (λ (m : ℕ). take m (digits b k n)) e ∙ take-length (digits b k n);
        behind = ap (λ (x : List ℕ). sets l (at + k) x) (sym (ap (λ (m : ℕ). drop m (digits b k n)) e ∙ drop-length (digits b k n)));
      }

  pub left_turn : (i : ℕ) {rest g : ℕ} {out : List ℕ} → 0 < i → g ≡ glyph (rest % b) → Left b k n l at i rest out
      → Left b k n l at (i - 1) (rest / b) (set out (at + (i - 1)) g)
  unfolding digits
  left_turn zero some e p = absurd (not-suc-le-zero some)
  left_turn (suc j) {rest} {g} {out} some e p =
      let front : List ℕ = digits b j (rest / b) in
      let len : length front ≡ j = length_digits b j (rest / b) in
      let taken : take j (digits b k n) ≡ front =
      sym (take-take j (suc j) (digits b k n) (omega arith)) ∙ ap (λ (x : List ℕ). take j x) p.ahead ∙ take_at front (glyph (rest % b) ∷ []) j len in
      let found : get_or (digits b k n) j 0 ≡ g =
      sym (get_or-take (suc j) (digits b k n) j 0 (omega arith)) ∙ ap (λ (x : List ℕ). get_or x j 0) p.ahead ∙ get_or_at front (glyph (rest % b)) [] 0 j len ∙ sym e in
      let inside : j < length (digits b k n) = omega (arith, p.low, length_digits b k n) in
      let tail : drop j (digits b k n) ≡ g ∷ drop (suc j) (digits b k n) = drop-cons (digits b k n) j 0 inside ∙ ap (λ (x : ℕ). x ∷ drop (suc j) (digits b k n)) found in
      subst (λ (m : ℕ). Left b k n l at m (rest / b) (set out (at + m) g)) (sym (sub-one (suc j)))
      (record {
        low = omega (arith, p.low);
        long = length-set out (at + j) g ∙ p.long;
        ahead = taken;
        behind =
            ap (λ (x : List ℕ). set x (at + j) g) p.behind
            ∙ set_sets (drop (suc j) (digits b k n)) l (at + suc j) (at + j) g (omega arith)
            ∙ ap (λ (m : ℕ). sets (set l (at + j) g) m (drop (suc j) (digits b k n))) (add-suc at j)
            ∙ ap (λ (x : List ℕ). sets l (at + j) x) (sym tail);
      })

  pub left_none : {i rest : ℕ} {out : List ℕ} → i ≡ 0 → Left b k n l at i rest out → Put l at (digits b k n) out (at + k)
  left_none {i} {rest} {out} e p =
      record {
        stored = p.behind ∙ ap (λ (j : ℕ). sets l (at + j) (drop j (digits b k n))) e ∙ ap (λ (j : ℕ). sets l j (digits b k n)) (add-zero at);
        kept = p.long;
        past = ap (λ (m : ℕ). at + m) (sym (length_digits b k n));
      }

pub hexadecimal-put : {l0 l1 l2 : List ℕ} {i0 i1 i2 : ℕ} (k x : ℕ) → Put l0 i0 (32 ∷ []) l1 i1 → Put l1 i1 (digits 16 k x) l2 i2 → Put l0 i0 (hexadecimal k x) l2 i2
unfolding hexadecimal
hexadecimal-put k x p q = put_then p q

pub decimal-put : {l m : List ℕ} {i r k : ℕ} (n : ℕ) → k ≡ places_in 20 n → Put l i (digits 10 k n) m r → Put l i (decimal n) m r
unfolding decimal
decimal-put {l} {m} {i} {r} {k} n e p = subst (λ (x : ℕ). Put l i (digits 10 x n) m r) e p

-- ---- how many decimal digits a number has
pub places_zero : (n : ℕ) → n ≡ 0 → 1 ≡ places_in 20 n
unfolding places_in
places_zero n e = rw e refl

-- from 10^k to below 10^(k+1) it has k + 1 of them
places_more : (f k n : ℕ) → k < f → 10 ^ k ≤ n → n < 10 * 10 ^ k → k + 1 ≡ places_in f n
unfolding places_in
places_more zero k n h low high = absurd (not-suc-le-zero h)
places_more (suc f) zero n h low high = let small : n < 10 = high in rw (lt-ltb n 10 small) refl
places_more (suc f) (suc k) n h low high =
    let e : 10 ^ suc k ≡ 10 * 10 ^ k = pow-succ' 10 k in
    let some : 1 ≤ 10 ^ k = one-le-pow k 10 (omega arith) in
    let large : 10 ≤ n = omega (arith, e, some, low) in
    rw (le-ltb n 10 large) (ap (λ (m : ℕ). m + 1) (sym (add-one k) ∙ places_more f k (n / 10) (omega arith) (omega (arith, e, low)) (omega (arith, e, high))))

pub places_by_power : (k n : ℕ) → k < 20 → 10 ^ k ≤ n → n < 10 * 10 ^ k → k + 1 ≡ places_in 20 n
places_by_power k n = places_more 20 k n
