-- What the soft-decision search finds. A word is its inputs, newest first.
use Rattle.std.specs.Prelude.{◌≡◌, Bool, false, List, reverse, ◌⊎◌, ℕ, ◌+◌, ◌*◌, ◌<◌, get_or, Float}
use Rattle.std.specs.Float.{nan, inf, binary64}
use Rattle.std.specs.Float.Ieee.{add}
use Rattle.std.specs.Float.Ieee.Exact.{HasValue}
use Rattle.bits.specs.Bits.{bytes, tally}
use Rattle.coding.specs.Codes.{coded, dcch}
use Rattle.coding.specs.Registers.{memory_high}
use Rattle.trellis.specs.Numbering.{newest_high}
use Rattle.trellis.specs.Trellis.{doubles, state_metric, survivor, word}
use Rattle.trellis.specs.Search.{First}
use Rattle.trellis.specs.Words.{Terminated}
use Rattle.soft.specs.Reliability.{AllWhole, bit_cost, whole_cost}
use Rattle.soft.specs.Branch.{output_bit, soft_branch, soft_trellis}
use Rattle.soft.specs.RustOrder.{rust_bits}

-- the word of the survivor of n steps into state 0
unfoldable pub soft_word : List Float → ℕ → List Bool
soft_word values n = word newest_high 0 (survivor doubles (soft_trellis values) n 0)

-- the total cost of a word's coded bits, from state 0
unfoldable pub total_cost : List Float → List Bool → ℕ
total_cost values w = tally whole_cost (coded dcch (memory_high 0) (reverse w)) values

-- a sum of two costs that does not round: it stands for the sum of the whole numbers that they stand for
pub record ExactSum (x y : Float) : Type 0 where
  pub one : ℕ
  pub other : ℕ
  pub left : HasValue x false one 1
  pub right : HasValue y false other 1
  pub total : HasValue (add binary64 x y) false (one + other) 1

-- no sum of n steps rounds: not that of a pair's two costs, nor that of a path metric and a branch metric (a state that is not reached stays at infinity)
pub record NoRounding (values : List Float) (n : ℕ) : Type 0 where
  pub pairs : (k s : ℕ) (b : Bool) → k < n → ExactSum (bit_cost (output_bit s b 0) (get_or values (k * 2) nan)) (bit_cost (output_bit s b 1) (get_or values (k * 2 + 1) nan))
  pub metrics : (k s : ℕ) (b : Bool) → k < n → s < 32
      → (state_metric doubles (soft_trellis values) k s ≡ inf false) ⊎ ExactSum (state_metric doubles (soft_trellis values) k s) (soft_branch values k s b)

-- The bits of a word, oldest first, for finite reliabilities: what the Rust reads back, which is the survivor's word over doubles and ends in five zeros.
-- On whole numbers of size at most 2 ^ 40 no sum rounds, and it is the first of the nearest words.
pub record SoftFound (values : List Float) (n : ℕ) (bits : List ℕ) : Type 0 where
  pub word : List Bool
  pub written : bits ≡ bytes (reverse word)
  pub rust : bits ≡ rust_bits values n
  pub survivor : word ≡ soft_word values n
  pub terminated : Terminated n word
  pub exact : AllWhole values → NoRounding values n
  pub nearest : AllWhole values → First (Terminated n) (total_cost values) word
