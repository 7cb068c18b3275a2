-- Division of polynomials over bits, by a one followed by any g: the shift register computes the remainder, and what is added to the
-- lowest coefficients is added to the remainder alone, so a message followed by its checksum leaves none. Assumes nothing.
use mathlib.Core.Path.{◌≡◌, refl, sym, ap, ap₂, ◌∙◌}
use mathlib.Core.Bool.{Bool, true, false, cond}
use mathlib.Core.List.{List, [], ◌∷◌, ◌++◌}
use Prim.Native.Nat.{ℕ, zero, suc, ◌-◌, ◌≤◌}
use native.Mathlib.Omega.{arith}
use native.Mathlib.Nat.{not-suc-le-zero}
use lib.ListN.{length, replicate, length-append, length-replicate}
use Rattle.bits.specs.Bits.{◌⊕◌}
use Rattle.checksums.specs.Checksums.{added, divided, remainder, check_bits}
use Rattle.checksums.specs.Feedback.{stepped, machine}

-- ---- sums
pub sum_assoc : (a b c : Bool) → a ⊕ b ⊕ c ≡ a ⊕ (b ⊕ c)
sum_assoc false b c = refl
sum_assoc true false c = refl
sum_assoc true true false = refl
sum_assoc true true true = refl

pub sum_swap : (a b c : Bool) → a ⊕ (b ⊕ c) ≡ b ⊕ (a ⊕ c)
sum_swap false b c = refl
sum_swap true false c = refl
sum_swap true true c = refl

pub sum_self : (a : Bool) → a ⊕ a ≡ false
sum_self false = refl
sum_self true = refl

sum_zero : (a : Bool) → a ⊕ false ≡ a
sum_zero false = refl
sum_zero true = refl

pub added-length : (g l : List Bool) → length (added g l) ≡ length l
unfolding added
added-length [] l = refl
added-length (a ∷ g) [] = refl
added-length (a ∷ g) (b ∷ l) = ap suc (added-length g l)

pub added_nil : (g : List Bool) → added g [] ≡ []
unfolding added
added_nil [] = refl
added_nil (a ∷ g) = refl

pub added_zeros : (n : ℕ) (l : List Bool) → added (replicate n false) l ≡ l
unfolding added
added_zeros zero l = refl
added_zeros (suc n) [] = refl
added_zeros (suc n) (b ∷ l) = ap (λ (r : List Bool). b ∷ r) (added_zeros n l)

-- a zero more below is nothing more
pub added_snoc : (t l : List Bool) → added (t ++ (false ∷ [])) l ≡ added t l
unfolding added
added_snoc [] [] = refl
added_snoc [] (b ∷ l) = refl
added_snoc (a ∷ t) [] = refl
added_snoc (a ∷ t) (b ∷ l) = ap (λ (r : List Bool). (a ⊕ b) ∷ r) (added_snoc t l)

pub added_assoc : (g t l : List Bool) → length g ≤ length t → added (added g t) l ≡ added g (added t l)
unfolding added
added_assoc [] t l h = refl
added_assoc (a ∷ g) [] l h = absurd (not-suc-le-zero h)
added_assoc (a ∷ g) (c ∷ t) [] h = refl
added_assoc (a ∷ g) (c ∷ t) (b ∷ l) h = ap₂ (λ (x : Bool) (r : List Bool). x ∷ r) (sum_assoc a c b) (added_assoc g t l (omega arith))

pub added_swap : (g t l : List Bool) → added g (added t l) ≡ added t (added g l)
unfolding added
added_swap [] t l = refl
added_swap (a ∷ g) [] l = refl
added_swap (a ∷ g) (c ∷ t) [] = refl
added_swap (a ∷ g) (c ∷ t) (b ∷ l) = ap₂ (λ (x : Bool) (r : List Bool). x ∷ r) (sum_swap a c b) (added_swap g t l)

-- a list added to as many zeros
pub added_to_zeros : (v : List Bool) → added v (replicate (length v) false) ≡ v
unfolding added
added_to_zeros [] = refl
added_to_zeros (b ∷ v) = ap₂ (λ (x : Bool) (r : List Bool). x ∷ r) (sum_zero b) (added_to_zeros v)

pub added_self : (v : List Bool) → added v v ≡ replicate (length v) false
unfolding added
added_self [] = refl
added_self (b ∷ v) = ap₂ (λ (x : Bool) (r : List Bool). x ∷ r) (sum_self b) (added_self v)

-- lists of one length whose sum is zero are the same
added_none : (v c : List Bool) → length v ≡ length c → added v c ≡ replicate (length c) false → v ≡ c
added_none v c h e =
    sym (added_to_zeros v) ∙ ap (λ (n : ℕ). added v (replicate n false)) h ∙ ap (added v) (sym (added_self c))
    ∙ sym (added_assoc v c c (omega arith)) ∙ ap (λ (l : List Bool). added l c) e ∙ added_zeros (length c) c

-- ---- remainders
pub divided-length : (g : List Bool) (k : ℕ) (l : List Bool) → length (divided g k l) ≡ length l - k
unfolding divided
divided-length g zero l = omega arith
divided-length g (suc k) [] = omega arith
divided-length g (suc k) (false ∷ l) = divided-length g k l ∙ omega arith
divided-length g (suc k) (true ∷ l) = divided-length g k (added g l) ∙ ap (λ (n : ℕ). n - k) (added-length g l) ∙ omega arith

pub remainder-length : (g l : List Bool) → length g ≤ length l → length (remainder g l) ≡ length g
remainder-length g l h = divided-length g (length l - length g) l ∙ omega arith

-- what is added below k coefficients is added to what k steps leave
pub divided-added : (g : List Bool) (k : ℕ) (v l : List Bool) → divided g k (added (replicate k false ++ v) l) ≡ added v (divided g k l)
unfolding divided added
divided-added g zero v l = refl
divided-added g (suc k) v [] = sym (added_nil v)
divided-added g (suc k) v (false ∷ l) = divided-added g k v l
divided-added g (suc k) v (true ∷ l) = ap (divided g k) (added_swap g (replicate k false ++ v) l) ∙ divided-added g k v (added g l)

-- a message with v below it
below : (u v : List Bool) → u ++ v ≡ added (replicate (length u) false ++ v) (u ++ replicate (length v) false)
unfolding added
below [] v = sym (added_to_zeros v)
below (b ∷ u) v = ap (λ (r : List Bool). b ∷ r) (below u v)

with_length : (g u v : List Bool) → length v ≡ length g → length (u ++ v) - length g ≡ length u
with_length g u v h = ap (λ (n : ℕ). n - length g) (length-append u v) ∙ omega arith

pub check_bits-length : (g u : List Bool) → length (check_bits g u) ≡ length g
check_bits-length g u =
    remainder-length g (u ++ replicate (length g) false)
    (omega (arith, length-append u (replicate (length g) false), length-replicate (length g) false))

-- what a message followed by v leaves: v and the message's checksum, added
pub remainder_followed : (g u v : List Bool) → length v ≡ length g → remainder g (u ++ v) ≡ added v (check_bits g u)
remainder_followed g u v h =
    ap (λ (k : ℕ). divided g k (u ++ v)) (with_length g u v h)
    ∙ ap (divided g (length u)) (below u v)
    ∙ divided-added g (length u) v (u ++ replicate (length v) false)
    ∙ ap (λ (n : ℕ). added v (divided g (length u) (u ++ replicate n false))) h
    ∙ ap (λ (k : ℕ). added v (divided g k (u ++ replicate (length g) false))) (sym (with_length g u (replicate (length g) false) (length-replicate (length g) false)))

-- a message is divided out by its checksum
pub remainder_none : (g u : List Bool) → remainder g (u ++ check_bits g u) ≡ replicate (length g) false
remainder_none g u =
    remainder_followed g u (check_bits g u) (check_bits-length g u) ∙ added_self (check_bits g u)
    ∙ ap (λ (n : ℕ). replicate n false) (check_bits-length g u)

-- and by nothing else
pub remainder_only : (g u v : List Bool) → length v ≡ length g → remainder g (u ++ v) ≡ replicate (length g) false → v ≡ check_bits g u
remainder_only g u v h e =
    added_none v (check_bits g u) (h ∙ sym (check_bits-length g u))
    (sym (remainder_followed g u v h) ∙ e ∙ ap (λ (n : ℕ). replicate n false) (sym (check_bits-length g u)))

-- ---- the register
pub stepped-length : (g r : List Bool) (b : Bool) → length (stepped g r b) ≡ length r
unfolding stepped
stepped-length g [] b = refl
stepped-length g (h ∷ t) b = go (h ⊕ b)
  where
    one_more : length (t ++ (false ∷ [])) ≡ suc (length t)
    one_more = length-append t (false ∷ []) ∙ omega arith

    go : (f : Bool) → length (cond f (added g (t ++ (false ∷ []))) (t ++ (false ∷ []))) ≡ suc (length t)
    go false = one_more
    go true = added-length g (t ++ (false ∷ [])) ∙ one_more

pub machine-length : (g r u : List Bool) → length (machine g r u) ≡ length r
unfolding machine
machine-length g r [] = refl
machine-length g r (b ∷ u) = machine-length g (stepped g r b) u ∙ stepped-length g r b

-- over two runs, one after the other
pub machine-append : (g r u v : List Bool) → machine g r (u ++ v) ≡ machine g (machine g r u) v
unfolding machine
machine-append g r [] v = refl
machine-append g r (b ∷ u) v = machine-append g (stepped g r b) u v

-- one step of the register is one step of the division
stepped-divided : (g r : List Bool) (b : Bool) (k : ℕ) (l : List Bool) → length r ≡ length g
    → divided g k (added (stepped g r b) l) ≡ divided g (suc k) (added r (b ∷ l))
unfolding stepped divided added
stepped-divided [] [] false k l e = refl
stepped-divided [] [] true k l e = refl
stepped-divided (a ∷ g) [] b k l e = let z : ⊥ = omega arith in absurd z
stepped-divided g (h ∷ t) b k l e = go (h ⊕ b)
  where
    go : (f : Bool) → divided g k (added (cond f (added g (t ++ (false ∷ []))) (t ++ (false ∷ []))) l) ≡ divided g (suc k) (f ∷ added t l)
    go false = ap (divided g k) (added_snoc t l)
    go true =
        ap (divided g k)
        (added_assoc g (t ++ (false ∷ [])) l (omega (arith, length-append t (false ∷ []))) ∙ ap (added g) (added_snoc t l))

-- what the register holds, added to what follows the bits, is what as many steps leave
pub machine-divided : (g r u w : List Bool) → length r ≡ length g → added (machine g r u) w ≡ divided g (length u) (added r (u ++ w))
unfolding machine divided
machine-divided g r [] w e = refl
machine-divided g r (b ∷ u) w e =
    machine-divided g (stepped g r b) u w (stepped-length g r b ∙ e) ∙ stepped-divided g r b (length u) (u ++ w) e

pub machine-remainder : (g r u : List Bool) → length r ≡ length g → machine g r u ≡ remainder g (added r (u ++ replicate (length g) false))
machine-remainder g r u e =
    sym (added_to_zeros (machine g r u))
    ∙ ap (λ (n : ℕ). added (machine g r u) (replicate n false)) (machine-length g r u ∙ e)
    ∙ machine-divided g r u (replicate (length g) false) e
    ∙ ap (λ (k : ℕ). divided g k (added r (u ++ replicate (length g) false)))
    (sym
    (ap (λ (n : ℕ). n - length g) (added-length r (u ++ replicate (length g) false))
    ∙ with_length g u (replicate (length g) false) (length-replicate (length g) false)))

-- from zeros it computes the checksum
pub machine-check_bits : (g u : List Bool) → machine g (replicate (length g) false) u ≡ check_bits g u
machine-check_bits g u =
    machine-remainder g (replicate (length g) false) u (length-replicate (length g) false)
    ∙ ap (remainder g) (added_zeros (length g) (u ++ replicate (length g) false))
