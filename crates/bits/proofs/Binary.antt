-- Bits and bytes: reading bytes 0 and 1 as bits and writing them again. Assumes nothing.
use mathlib.Core.Path.{◌≡◌, refl, sym, ap, ap₂, ◌∙◌}
use mathlib.Core.Bool.{Bool, true, false, not}
use mathlib.Core.List.{List, [], ◌∷◌, ◌++◌}
use Prim.Native.Nat.{ℕ, zero, suc, ◌+◌, ◌*◌, ◌%◌, ◌<◌, ◌≤◌}
use native.Mathlib.Omega.{arith}
use lib.Dec.{eqb}
use lib.ListN.{length, get_or, get_or-map, take, drop}
use Rattle.bits.proofs.Below.{below_none, below_head, below_tail, below_cons, below_at, below_take, below_drop}
use mir.Val.{bool_byte}
use Rattle.bits.specs.Bits.{byte, bit, bytes, bits, all_binary, disagreement}

-- ---- one bit
-- as the code writes it
pub flag_byte : (b : Bool) → bool_byte b ≡ byte b
flag_byte false = refl
flag_byte true = refl

pub bit_byte : (b : Bool) → bit (byte b) ≡ b
bit_byte false = refl
bit_byte true = refl

pub byte-bit : (x : ℕ) → x < 2 → byte (bit x) ≡ x
byte-bit zero h = refl
byte-bit (suc zero) h = refl
byte-bit (suc (suc x)) h = let z : ⊥ = omega arith in absurd z

-- of any number: its lowest bit
pub byte-bit_any : (x : ℕ) → byte (bit x) ≡ x % 2
byte-bit_any x = go (x % 2) (omega arith)
  where
    go : (y : ℕ) → y < 2 → byte (eqb y 1) ≡ y
    go zero h = refl
    go (suc zero) h = refl
    go (suc (suc y)) h = let z : ⊥ = omega arith in absurd z

pub bit_above : (a : ℕ) (b : Bool) → bit (a * 2 + byte b) ≡ b
bit_above a false = let e : (a * 2 + 0) % 2 ≡ 0 = omega arith in ap (λ (x : ℕ). eqb x 1) e
bit_above a true = let e : (a * 2 + 1) % 2 ≡ 1 = omega arith in ap (λ (x : ℕ). eqb x 1) e

pub byte_below : (b : Bool) → byte b < 2
byte_below false = omega arith
byte_below true = omega arith

pub byte_one : (a b : Bool) → byte a ≡ byte b → a ≡ b
byte_one a b e = sym (bit_byte a) ∙ ap bit e ∙ bit_byte b

pub bit_one : (x y : ℕ) → x < 2 → y < 2 → bit x ≡ bit y → x ≡ y
bit_one x y hx hy e = sym (byte-bit x hx) ∙ ap byte e ∙ byte-bit y hy

-- ---- lists
pub bits-bytes : (w : List Bool) → bits (bytes w) ≡ w
bits-bytes [] = refl
bits-bytes (b ∷ w) = ap₂ (λ (x : Bool) (l : List Bool). x ∷ l) (bit_byte b) (bits-bytes w)

pub bytes-append : (u w : List Bool) → bytes (u ++ w) ≡ bytes u ++ bytes w
bytes-append [] w = refl
bytes-append (b ∷ u) w = ap (λ (l : List ℕ). byte b ∷ l) (bytes-append u w)

pub bits-append : (u w : List ℕ) → bits (u ++ w) ≡ bits u ++ bits w
bits-append [] w = refl
bits-append (b ∷ u) w = ap (λ (l : List Bool). bit b ∷ l) (bits-append u w)

-- ---- all_binary
abbrev pub binary_head : (x : ℕ) (l : List ℕ) → all_binary (x ∷ l) ≡ true → x < 2
binary_head = below_head 2

abbrev pub binary_tail : (x : ℕ) (l : List ℕ) → all_binary (x ∷ l) ≡ true → all_binary l ≡ true
binary_tail = below_tail 2

abbrev pub binary_cons : (x : ℕ) (l : List ℕ) → x < 2 → all_binary (x ∷ l) ≡ all_binary l
binary_cons = below_cons 2

abbrev pub binary_at : (l : List ℕ) → all_binary l ≡ true → (k : ℕ) → k < length l → get_or l k 0 < 2
binary_at = below_at 2

abbrev pub binary_take : (n : ℕ) (l : List ℕ) → all_binary l ≡ true → all_binary (take n l) ≡ true
binary_take = below_take 2

abbrev pub binary_drop : (n : ℕ) (l : List ℕ) → all_binary l ≡ true → all_binary (drop n l) ≡ true
binary_drop = below_drop 2

pub binary_bytes : (w : List Bool) → all_binary (bytes w) ≡ true
binary_bytes [] = below_none 2
binary_bytes (b ∷ w) = binary_cons (byte b) (bytes w) (byte_below b) ∙ binary_bytes w

pub bytes_bits : (l : List ℕ) → all_binary l ≡ true → bytes (bits l) ≡ l
bytes_bits [] e = refl
bytes_bits (x ∷ l) e = ap₂ (λ (y : ℕ) (r : List ℕ). y ∷ r) (byte-bit x (binary_head x l e)) (bytes_bits l (binary_tail x l e))

-- ---- differ
pub differ_le : (a b : Bool) → disagreement a b ≤ 1
differ_le false false = omega arith
differ_le false true = omega arith
differ_le true false = omega arith
differ_le true true = omega arith

-- a number and its lowest bit are one bit
pub bit_low : (x : ℕ) → bit (x % 2) ≡ bit x
bit_low x = let e : x % 2 % 2 ≡ x % 2 = omega arith in ap (λ (n : ℕ). eqb n 1) e

-- of two bytes, as a byte
pub differs_of : (a b : ℕ) → a < 2 → b < 2 → bool_byte (not (eqb a b)) ≡ disagreement (bit a) (bit b)
differs_of zero zero h k = refl
differs_of zero (suc zero) h k = refl
differs_of (suc zero) zero h k = refl
differs_of (suc zero) (suc zero) h k = refl
differs_of (suc (suc a)) b h k = let z : ⊥ = omega arith in absurd z
differs_of zero (suc (suc b)) h k = let z : ⊥ = omega arith in absurd z
differs_of (suc zero) (suc (suc b)) h k = let z : ⊥ = omega arith in absurd z

pub differs_low : (a b : ℕ) → bool_byte (not (eqb (a % 2) (b % 2))) ≡ disagreement (bit a) (bit b)
differs_low a b = differs_of (a % 2) (b % 2) (omega arith) (omega arith) ∙ ap₂ disagreement (bit_low a) (bit_low b)

pub differ_same : (a : Bool) → disagreement a a ≡ 0
differ_same false = refl
differ_same true = refl

pub differ_none : (a b : Bool) → disagreement a b ≡ 0 → a ≡ b
differ_none false false e = refl
differ_none false true e = let z : ⊥ = omega arith in absurd z
differ_none true false e = let z : ⊥ = omega arith in absurd z
differ_none true true e = refl

pub differ_other : (a b : Bool) → (a ≡ b → ⊥) → disagreement a b ≡ 1
differ_other false false n = absurd (n refl)
differ_other false true n = refl
differ_other true false n = refl
differ_other true true n = absurd (n refl)

-- ---- parts of a list
pub bits-take : (n : ℕ) (l : List ℕ) → bits (take n l) ≡ take n (bits l)
bits-take zero l = refl
bits-take (suc n) [] = refl
bits-take (suc n) (x ∷ l) = ap (λ (r : List Bool). bit x ∷ r) (bits-take n l)

pub bits-drop : (n : ℕ) (l : List ℕ) → bits (drop n l) ≡ drop n (bits l)
bits-drop zero l = refl
bits-drop (suc n) [] = refl
bits-drop (suc n) (x ∷ l) = bits-drop n l

-- the bit of a byte that is read
pub bit_read : (l : List ℕ) (k : ℕ) → bit (get_or l k 0) ≡ get_or (bits l) k false
bit_read l k = sym (get_or-map bit l k 0)
