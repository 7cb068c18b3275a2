-- Lists of words, those of them that weigh least, and what these decide. A word is a list of input bits, newest first.
use Rattle.std.specs.Prelude.{Bool, true, false, cond, List, [], ◌∷◌, ◌++◌, map, ℕ, zero, suc, ◌-◌, eqb, ltb, length, get_or, replicate}

-- the words of n bits
unfoldable pub all_words : ℕ → List (List Bool)
all_words zero = [] ∷ []
all_words (suc n) = map (◌∷◌ false) (all_words n) ++ map (◌∷◌ true) (all_words n)

-- the words of n bits that end in five zeros
unfoldable pub terminated_words : ℕ → List (List Bool)
terminated_words n = map (◌++◌ (replicate 5 false)) (all_words (n - 5))

module _ (weight : List Bool → ℕ) where
  -- A word against words that share a weight: it replaces them where it weighs less, and joins them where it weighs the same.
  unfoldable pub against : List Bool → List (List Bool) → List (List Bool)
  against w [] = w ∷ []
  against w (v ∷ vs) = cond (ltb (weight w) (weight v)) (w ∷ []) (cond (ltb (weight v) (weight w)) (v ∷ vs) (w ∷ v ∷ vs))

  -- those of a list that weigh least
  unfoldable pub lightest : List (List Bool) → List (List Bool)
  lightest [] = []
  lightest (w ∷ ws) = against w (lightest ws)

-- What the lightest of some words decide: `one` of the word that alone weighs least, with its weight; `more` where two or more share the least weight.
unfoldable pub decided : {A : Type 0} → List (List Bool) → (List Bool → ℕ) → (List Bool → ℕ → A) → A → A
decided words weight one more =
    cond (eqb (length (lightest weight words)) 1) (one (get_or (lightest weight words) 0 []) (weight (get_or (lightest weight words) 0 []))) more
