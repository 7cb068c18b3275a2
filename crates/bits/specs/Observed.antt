-- Received bits, of which some were not observed: a byte 2 stands for one that was not.
use Rattle.std.specs.Prelude.{Bool, cond, List, [], ◌∷◌, ℕ, ◌+◌, eqb, length}
use Rattle.bits.specs.Arguments.{Arguments, first_refusal, exact_of, symbol_unless}
use Rattle.bits.specs.Bits.{all_below, bit, disagreement}

-- every byte is 0, 1 or 2
abbrev pub all_erasable : List ℕ → Bool
all_erasable l = all_below 3 l

-- Symbol where a byte is above 2
abbrev pub erasable_of : List ℕ → Arguments
erasable_of l = symbol_unless (all_erasable l)

-- n such bytes
abbrev pub exact_erasable : ℕ → List ℕ → Arguments
exact_erasable n l = first_refusal (exact_of n (length l)) (erasable_of l)

-- what a coded bit costs against a received byte: one where the byte is observed and reads otherwise
unfoldable pub erased_differ : Bool → ℕ → ℕ
erased_differ sent received = cond (eqb received 2) 0 (disagreement sent (bit received))

-- 1 where a byte is observed
unfoldable pub observed_one : ℕ → ℕ
observed_one x = cond (eqb x 2) 0 1

-- the number of observed bytes
unfoldable pub observed_count : List ℕ → ℕ
observed_count [] = 0
observed_count (x ∷ received) = observed_one x + observed_count received
