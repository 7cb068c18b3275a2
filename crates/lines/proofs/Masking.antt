-- The bits of an `F` line, digit by digit. Assumes nothing.
use mathlib.Core.Path.{◌≡◌, refl, sym, ap, ap₂, subst, ◌∙◌}
use mathlib.Core.Bool.{Bool, true, false, cond}
use mathlib.Core.List.{List, [], ◌∷◌, ◌++◌, append-nil, append_assoc}
use Prim.Native.Nat.{ℕ, zero, suc, ◌+◌, ◌*◌, ◌/◌, ◌≤◌, ◌<◌}
use native.Mathlib.Nat.{div-one}
use native.Mathlib.Numerals.{add-one}
use native.Mathlib.Omega.{arith}
use lib.ListN.{length, get_or, take, drop, set, replicate, length-append, length-drop, length-replicate, length-set}
use lib.Seq.{get_or-drop, get_or-take, sets, sets-eq, take_all, take_at, take-suc, length-take-le}
use Rattle.std.specs.Prelude.{Option, None, Some, MatchOption}
use Rattle.std.specs.Option.{unwrap_or}
use Rattle.bits.specs.Bits.{bit, byte}
use Rattle.bits.specs.Numbers.{unpacked}
use Rattle.bits.specs.Observed.{observed_count, observed_one}
use Rattle.text.specs.Lines.{digit_of}
use Rattle.lines.specs.Masked.{digit_bits, mask_ones, masked, observed_bits, ones_in}

-- ---- many
length-unpacked : (n x : ℕ) → length (unpacked n x) ≡ n
unfolding unpacked
length-unpacked zero x = refl
length-unpacked (suc n) x = ap suc (length-unpacked n x)

length-bits : (ds : List ℕ) → length (digit_bits ds) ≡ 4 * length ds
unfolding digit_bits
length-bits [] = refl
length-bits (d ∷ ds) = length-append (unpacked 4 (digit_of d)) (digit_bits ds) ∙ omega (arith, length-unpacked 4 (digit_of d), length-bits ds)

length-masked : (bs ms : List Bool) → length bs ≡ length ms → length (masked bs ms) ≡ length bs
unfolding masked
length-masked [] ms e = refl
length-masked (b ∷ bs) [] e = let z : ⊥ = omega arith in absurd z
length-masked (b ∷ bs) (m ∷ ms) e = ap suc (length-masked bs ms (omega arith))

masked-append : (bs ms : List Bool) (us ws : List Bool) → length bs ≡ length ms → masked (bs ++ us) (ms ++ ws) ≡ masked bs ms ++ masked us ws
unfolding masked
masked-append [] [] us ws e = refl
masked-append [] (m ∷ ms) us ws e = let z : ⊥ = omega arith in absurd z
masked-append (b ∷ bs) [] us ws e = let z : ⊥ = omega arith in absurd z
masked-append (b ∷ bs) (m ∷ ms) us ws e = ap (λ (l : List ℕ). cond m (byte b) 2 ∷ l) (masked-append bs ms us ws (omega arith))

bits-append : (ds es : List ℕ) → digit_bits (ds ++ es) ≡ digit_bits ds ++ digit_bits es
unfolding digit_bits
bits-append [] es = refl
bits-append (d ∷ ds) es =
    ap (λ (l : List Bool). unpacked 4 (digit_of d) ++ l) (bits-append ds es) ∙ sym (append_assoc (unpacked 4 (digit_of d)) (digit_bits ds) (digit_bits es))

bits_one : (d : ℕ) → digit_bits (d ∷ []) ≡ unpacked 4 (digit_of d)
unfolding digit_bits
bits_one d = append-nil (unpacked 4 (digit_of d))

-- the bits of digits and mask
abbrev both : List ℕ → List ℕ → List ℕ
both ds ms = masked (digit_bits ds) (digit_bits ms)

both_append : (ds ms : List ℕ) (d m : ℕ) → length ds ≡ length ms → both (ds ++ (d ∷ [])) (ms ++ (m ∷ [])) ≡ both ds ms ++ masked (unpacked 4 (digit_of d)) (unpacked 4 (digit_of m))
both_append ds ms d m e =
    ap₂ masked (bits-append ds (d ∷ []) ∙ ap (λ (l : List Bool). digit_bits ds ++ l) (bits_one d)) (bits-append ms (m ∷ []) ∙ ap (λ (l : List Bool). digit_bits ms ++ l) (bits_one m))
    ∙ masked-append (digit_bits ds) (digit_bits ms) (unpacked 4 (digit_of d)) (unpacked 4 (digit_of m)) (length-bits ds ∙ ap (λ (n : ℕ). 4 * n) e ∙ sym (length-bits ms))

length_both : (ds ms : List ℕ) → length ds ≡ length ms → length (both ds ms) ≡ 4 * length ds
length_both ds ms e = length-masked (digit_bits ds) (digit_bits ms) (length-bits ds ∙ ap (λ (n : ℕ). 4 * n) e ∙ sym (length-bits ms)) ∙ length-bits ds

-- ---- an `F` line has 260 bits, and as many of them are observed as its mask has ones
digits_long : (l : List ℕ) (n : ℕ) → n ≤ 71 → length l ≡ 136 → length (take 65 (drop n l)) ≡ 65
digits_long l n h e = length-take-le 65 (drop n l) (subst (λ (k : ℕ). 65 ≤ k) (sym (length-drop n l)) (omega arith))

pub length-observed : (l : List ℕ) → length l ≡ 136 → length (observed_bits l) ≡ 260
unfolding observed_bits
length-observed l e =
    let first = digits_long l 5 (omega arith) e in
    let second = digits_long l 71 (omega arith) e in
    length_both (take 65 (drop 5 l)) (take 65 (drop 71 l)) (first ∙ sym second) ∙ ap (λ (n : ℕ). 4 * n) first

observed_ones : (bs ms : List Bool) → length bs ≡ length ms → observed_count (masked bs ms) ≡ ones_in ms
unfolding masked ones_in observed_count observed_one
observed_ones [] [] e = refl
observed_ones [] (m ∷ ms) e = let z : ⊥ = omega arith in absurd z
observed_ones (b ∷ bs) [] e = let z : ⊥ = omega arith in absurd z
observed_ones (b ∷ bs) (false ∷ ms) e = ap (λ (n : ℕ). 0 + n) (observed_ones bs ms (omega arith))
observed_ones (false ∷ bs) (true ∷ ms) e = ap (λ (n : ℕ). 1 + n) (observed_ones bs ms (omega arith))
observed_ones (true ∷ bs) (true ∷ ms) e = ap (λ (n : ℕ). 1 + n) (observed_ones bs ms (omega arith))

pub observed_mask : (l : List ℕ) → length l ≡ 136 → observed_count (observed_bits l) ≡ mask_ones l
unfolding observed_bits mask_ones
observed_mask l e =
    let bits : List ℕ = take 65 (drop 5 l) in
    let mask : List ℕ = take 65 (drop 71 l) in
    observed_ones (digit_bits bits) (digit_bits mask)
    (length-bits bits ∙ ap (λ (n : ℕ). 4 * n) (digits_long l 5 (omega arith) e ∙ sym (digits_long l 71 (omega arith) e)) ∙ sym (length-bits mask))

-- ---- the four bits of a character
-- one that is no digit counts as 16, of which the four lowest bits are zeros
four_of : (r : Option ℕ) (b : ℕ) → MatchOption r (digit_of b ≡ 16) (λ d. (d ≡ digit_of b) × (d < 16)) → unpacked 4 (unwrap_or r 0) ≡ unpacked 4 (digit_of b)
unfolding unpacked
four_of None b e = rw e refl
four_of (Some d) b h = ap (unpacked 4) h.0

pub digit_read : (r : Option ℕ) (b : ℕ) {d : ℕ} → MatchOption r (digit_of b ≡ 16) (λ x. (x ≡ digit_of b) × (x < 16)) → d ≡ unwrap_or r 0 → unpacked 4 d ≡ unpacked 4 (digit_of b)
digit_read r b h e = ap (unpacked 4) e ∙ four_of r b h

-- stored at their places
four_stored : (l : List ℕ) (k a b c e : ℕ) → k + 4 ≤ length l
    → take (k + 4) (set (set (set (set l k a) (k + 1) b) (k + 2) c) (k + 3) e) ≡ take k l ++ (a ∷ b ∷ c ∷ e ∷ [])
four_stored l k a b c e h =
    let four : List ℕ = a ∷ b ∷ c ∷ e ∷ [] in
    let n1 : k + 1 ≡ suc k = add-one k in
    let n2 : k + 2 ≡ suc (suc k) = omega arith in
    let n3 : k + 3 ≡ suc (suc (suc k)) = omega arith in
    let stored : set (set (set (set l k a) (k + 1) b) (k + 2) c) (k + 3) e ≡ sets l k four = rw (n1, n2, n3) refl in
    let front : length (take k l ++ four) ≡ k + 4 = length-append (take k l) four ∙ ap (λ (n : ℕ). n + 4) (length-take-le k l (omega arith)) in
    ap (take (k + 4)) (stored ∙ sets-eq four l k h) ∙ take_at (take k l ++ four) (drop (k + length four) l) (k + 4) front

four_bits : (d m : ℕ) {a b c e : ℕ} → a ≡ cond (bit (m / 8)) (byte (bit (d / 8))) 2 → b ≡ cond (bit (m / 4)) (byte (bit (d / 4))) 2
    → c ≡ cond (bit (m / 2)) (byte (bit (d / 2))) 2 → e ≡ cond (bit m) (byte (bit d)) 2 → a ∷ b ∷ c ∷ e ∷ [] ≡ masked (unpacked 4 d) (unpacked 4 m)
unfolding masked unpacked
four_bits d m ea eb ec ee = rw (ea, eb, ec, ee, div-one d, div-one m) refl

-- ---- the loop: the bits of the first i digits are written
pub record Reading (l : List ℕ) (i : ℕ) (bits : List ℕ) : Type 0 where
  pub size : length bits ≡ 260
  pub written : take (4 * i) bits ≡ both (take i (take 65 (drop 5 l))) (take i (take 65 (drop 71 l)))

pub reading_none : (l : List ℕ) → Reading l 0 (replicate 260 0)
unfolding digit_bits masked
reading_none l = record { size = length-replicate {A = ℕ} 260 0; written = refl }

module _ (l : List ℕ) (long : length l ≡ 136) where
  digit_at_lem : (n i : ℕ) → n ≤ 71 → i < 65 → get_or (take 65 (drop n l)) i 0 ≡ get_or l (n + i) 0
  digit_at_lem n i h b = get_or-take 65 (drop n l) i 0 b ∙ get_or-drop n l i 0

  module _ {i : ℕ} {bits : List ℕ} (r : Reading l i bits) where
    pub reading_more : (d m : ℕ) {a b c e : ℕ} → i < 65 → unpacked 4 d ≡ unpacked 4 (digit_of (get_or l (5 + i) 0)) → unpacked 4 m ≡ unpacked 4 (digit_of (get_or l (71 + i) 0))
        → a ≡ cond (bit (m / 8)) (byte (bit (d / 8))) 2 → b ≡ cond (bit (m / 4)) (byte (bit (d / 4))) 2
        → c ≡ cond (bit (m / 2)) (byte (bit (d / 2))) 2 → e ≡ cond (bit m) (byte (bit d)) 2
        → Reading l (i + 1) (set (set (set (set bits (4 * i) a) (4 * i + 1) b) (4 * i + 2) c) (4 * i + 3) e)
    reading_more d m {a} {b} {c} {e} h ed em ea eb ec ee =
        let ds : List ℕ = take 65 (drop 5 l) in
        let ms : List ℕ = take 65 (drop 71 l) in
        let dl : length ds ≡ 65 = digits_long l 5 (omega arith) long in
        let ml : length ms ≡ 65 = digits_long l 71 (omega arith) long in
        let same : length (take i ds) ≡ length (take i ms) = length-take-le i ds (omega arith) ∙ sym (length-take-le i ms (omega arith)) in
        let next : 4 * (i + 1) ≡ 4 * i + 4 = omega arith in
        record {
          size = simp length-set r.size;
          written =
              ap (λ (n : ℕ). take n (set (set (set (set bits (4 * i) a) (4 * i + 1) b) (4 * i + 2) c) (4 * i + 3) e)) next
              ∙ four_stored bits (4 * i) a b c e (omega (arith, r.size))
              ∙ ap₂ (λ (x y : List ℕ). x ++ y) r.written
              (four_bits d m ea eb ec ee ∙ ap₂ masked (ed ∙ ap (λ (x : ℕ). unpacked 4 (digit_of x)) (sym (digit_at_lem 5 i (omega arith) h)))
              (em ∙ ap (λ (x : ℕ). unpacked 4 (digit_of x)) (sym (digit_at_lem 71 i (omega arith) h))))
              ∙ sym (ap₂ both (ap (λ (n : ℕ). take n ds) (add-one i) ∙ take-suc ds i 0 (omega arith)) (ap (λ (n : ℕ). take n ms) (add-one i) ∙ take-suc ms i 0 (omega arith))
              ∙ both_append (take i ds) (take i ms) (get_or ds i 0) (get_or ms i 0) same);
        }

    pub reading_done : i ≡ 65 → bits ≡ observed_bits l
    unfolding observed_bits
    reading_done e =
        let all : 260 ≡ 4 * i = omega arith in
        let dl : length (take 65 (drop 5 l)) ≤ i = omega (arith, digits_long l 5 (omega arith) long) in
        let ml : length (take 65 (drop 71 l)) ≤ i = omega (arith, digits_long l 71 (omega arith) long) in
        sym (take_all 260 bits (omega (arith, r.size))) ∙ ap (λ (n : ℕ). take n bits) all ∙ r.written
        ∙ ap₂ both (take_all i (take 65 (drop 5 l)) dl) (take_all i (take 65 (drop 71 l)) ml)
