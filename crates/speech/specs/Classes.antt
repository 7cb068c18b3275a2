-- The 260 places of a frame (IS-54-B 2.1.3.3.4), bits in the order of the standard's tables.
use Rattle.std.specs.Prelude.{Bool, cond, not, ◌&&◌, ◌||◌, List, [], ◌∷◌, ℕ, zero, suc, ◌+◌, eqb, leb, get_or}
use Rattle.bits.specs.Places.{listed}

-- 2.1.3.3.4: the places of class two
unfoldable pub is_class_two : ℕ → Bool
is_class_two p =
    eqb p 0 || eqb p 26 || eqb p 52 || eqb p 78 || eqb p 130 || eqb p 156 || eqb p 182 || eqb p 208
    || (leb 93 p && leb p 129) || (leb 223 p && leb p 259)

-- how many numbers below n pass a test
unfoldable pub passing : (ℕ → Bool) → ℕ → ℕ
passing test zero = 0
passing test (suc n) = cond (test n) (passing test n + 1) (passing test n)

-- class two and protected bits, each in order, at their places
unfoldable pub placed : {A : Type 0} → A → List A → List A → List A
placed d protected class_two =
    listed 260
    (λ (p : ℕ). cond (is_class_two p) (get_or class_two (passing is_class_two p) d) (get_or protected (passing (λ (q : ℕ). not (is_class_two q)) p) d))

-- the elements of a frame at the places that pass a test, in order, from place p on
unfoldable pub taken_from : {A : Type 0} → (ℕ → Bool) → ℕ → List A → List A
taken_from test p [] = []
taken_from test p (x ∷ l) = cond (test p) (x ∷ taken_from test (suc p) l) (taken_from test (suc p) l)

abbrev pub class_two_of : {A : Type 0} → List A → List A
class_two_of frame = taken_from is_class_two 0 frame

abbrev pub protected_of : {A : Type 0} → List A → List A
protected_of frame = taken_from (λ (q : ℕ). not (is_class_two q)) 0 frame
