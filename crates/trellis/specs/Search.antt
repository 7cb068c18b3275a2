-- What a search finds. A word is a list of input bits, newest first.
-- A codec says over which words it searches, Word, and what each weighs, weight: its disagreements with what was received.
use Rattle.std.specs.Prelude.{◌≡◌, Bool, true, false, List, [], ◌∷◌, reverse, ℕ, ◌≤◌}
use Rattle.bits.specs.Bits.{bytes}
use Rattle.trellis.specs.declared.Outcome.{Outcome}

module _ (Word : List Bool → Type 0) (weight : List Bool → ℕ) where
  -- w is one of the words, and none weighs less
  pub record Nearest (w : List Bool) : Type 0 where
    pub word : Word w
    pub least : (u : List Bool) → Word u → weight w ≤ weight u

  -- two distinct words share the least weight
  pub record Ambiguous : Type 0 where
    pub one : List Bool
    pub other : List Bool
    pub one_nearest : Nearest one
    pub other_nearest : Nearest other
    pub distinct : one ≡ other → ⊥

  -- A search has found a nearest word: its bits, oldest first; its weight; and whether another word weighs as little.
  pub record Found (bits : List ℕ) (r : Outcome) : Type 0 where
    pub word : List Bool
    pub written : bits ≡ bytes (reverse word)
    pub nearest : Nearest word
    pub metric : r.metric ≡ weight word
    pub tied : r.tie ≡ true → Ambiguous
    pub alone : Ambiguous → r.tie ≡ true

-- u stands before w or is w: a zero at the last place where they differ (document 01's rule for ties), the newest bit being the last
abbrev pub Precedes : List Bool → List Bool → Type 0
Precedes [] w = Unit {0}
Precedes (a ∷ u) [] = ⊥
Precedes (false ∷ u) (false ∷ w) = Precedes u w
Precedes (false ∷ u) (true ∷ w) = Unit {0}
Precedes (true ∷ u) (false ∷ w) = ⊥
Precedes (true ∷ u) (true ∷ w) = Precedes u w

-- the first of the nearest words
pub record First (Word : List Bool → Type 0) (weight : List Bool → ℕ) (w : List Bool) : Type 0 where
  pub nearest : Nearest Word weight w
  pub first : (u : List Bool) → Nearest Word weight u → Precedes w u

-- A search has found the first of the nearest words.
pub record FoundFirst (Word : List Bool → Type 0) (weight : List Bool → ℕ) (bits : List ℕ) (r : Outcome) : Type 0 where
  pub found : Found Word weight bits r
  pub first : First Word weight found.word
