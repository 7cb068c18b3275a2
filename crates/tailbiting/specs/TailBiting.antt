-- The tail-biting search of the FACCH code, with unobserved bits. A word is its inputs, newest first.
use Rattle.std.specs.Prelude.{Bool, List, reverse, ℕ, take}
use Rattle.bits.specs.Bits.{tally}
use Rattle.bits.specs.Observed.{erased_differ}
use Rattle.coding.specs.Codes.{coded, facch}

-- the coded bits of a word that starts in the memory where it ends (IS-54-B 2.7.3.1.1.4: there is no tail)
abbrev pub tail_coded : List Bool → List Bool
tail_coded u = coded facch (take 5 u) (reverse u)

-- its disagreements over the observed bits
unfoldable pub tail_weight : List ℕ → List Bool → ℕ
tail_weight received u = tally erased_differ (tail_coded u) received
