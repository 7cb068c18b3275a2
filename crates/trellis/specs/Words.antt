-- Words through a trellis: lists of inputs, newest first, and the sums of their branch metrics.
use Rattle.std.specs.Prelude.{◌≡◌, Bool, false, cond, List, [], ◌∷◌, ℕ, zero, suc, ◌+◌, ◌*◌, ltb, length, take, drop, replicate}
use Rattle.bits.specs.Bits.{tally}
use Rattle.coding.specs.Codes.{outputs}
use Rattle.trellis.specs.Numbering.{Numbering}

-- the state after the word u from the state s
unfoldable pub state_after : Numbering → ℕ → List Bool → ℕ
state_after N s [] = s
state_after N s (b ∷ u) = N.next (state_after N s u) b

-- the words that lead from s to t in n steps
pub record Leads (N : Numbering) (s t n : ℕ) (w : List Bool) : Type 0 where
  pub steps : length w ≡ n
  pub ends : state_after N s w ≡ t

-- all words of n inputs
abbrev pub OfLength : ℕ → List Bool → Type 0
OfLength n w = length w ≡ n

-- the words of n inputs that end in five zeros
pub record Terminated (n : ℕ) (w : List Bool) : Type 0 where
  pub steps : length w ≡ n
  pub tail : take 5 w ≡ replicate 5 false

-- the least of f 0 to f n
unfoldable pub least_up_to : ℕ → (ℕ → ℕ) → ℕ
least_up_to zero f = f 0
least_up_to (suc n) f = cond (ltb (f (suc n)) (least_up_to n f)) (f (suc n)) (least_up_to n f)

-- branch k s b: the branch metric of the step k from the state s with the input b
module _ (N : Numbering) (branch : ℕ → ℕ → Bool → ℕ) where
  -- the sum of a word's branch metrics from the state s
  unfoldable pub word_metric : ℕ → List Bool → ℕ
  word_metric s [] = 0
  word_metric s (b ∷ u) = word_metric s u + branch (length u) (state_after N s u) b

  -- the least over the 32 starting states (SACCH)
  unfoldable pub free_metric : List Bool → ℕ
  free_metric u = least_up_to 31 (λ s. word_metric s u)

-- The branch metrics of a code: the sum of f over the output bits of a step and what was received of it.
unfoldable pub branch_of : {B : Type 0} → List (List Bool) → (ℕ → List Bool) → (Bool → B → ℕ) → List B → ℕ → ℕ → Bool → ℕ
branch_of code memory f received k s b = tally f (outputs code (b ∷ memory s)) (drop (k * length code) received)
