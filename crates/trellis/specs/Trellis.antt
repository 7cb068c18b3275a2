-- A trellis of a code whose states have two predecessors each, and its search: add, compare, select.
-- A path into a state is the list of its predecessor choices, newest first: false is the lower predecessor.
use Rattle.std.specs.Prelude.{Bool, true, false, cond, List, [], ◌∷◌, ◌≡◌, ℕ, zero, suc, ◌+◌, ◌≤◌, ltb, eqb, leb, length, Float}
use Rattle.std.specs.Float.{binary64}
use Rattle.std.specs.Float.Ieee.{add, lt}
use Rattle.trellis.specs.Numbering.{Numbering}

-- costs: a sum and an order
pub record Costs (C : Type 0) : Type 0 where
  pub plus : C → C → C
  pub less : C → C → Bool

abbrev pub wholes : Costs ℕ
wholes = record { plus = λ a b. a + b; less = ltb }

abbrev pub doubles : Costs Float
doubles = record { plus = add binary64; less = lt }

-- branch k s b: the branch metric of the step k from the state s with the input b. start s: the metric of starting in s.
pub record Trellis (C : Type 0) : Type 0 where
  pub numbering : Numbering
  pub branch : ℕ → ℕ → Bool → C
  pub start : ℕ → C

abbrev pub predecessor : {C : Type 0} → Trellis C → ℕ → Bool → ℕ
predecessor X t b = X.numbering.pred t b

-- the branch metric of the step k into t from its predecessor b
abbrev pub branch_into : {C : Type 0} → Trellis C → ℕ → ℕ → Bool → C
branch_into X k t b = X.branch k (X.numbering.pred t b) (X.numbering.newest t)

module _ {C : Type 0} (K : Costs C) (X : Trellis C) where
  -- the metric of the survivor of n steps into t; of equal candidates the lower predecessor's survives
  unfoldable pub state_metric : ℕ → ℕ → C
  state_metric zero t = X.start t
  state_metric (suc n) t =
      cond (K.less (K.plus (state_metric n (predecessor X t true)) (branch_into X n t true)) (K.plus (state_metric n (predecessor X t false)) (branch_into X n t false)))
      (K.plus (state_metric n (predecessor X t true)) (branch_into X n t true))
      (K.plus (state_metric n (predecessor X t false)) (branch_into X n t false))

  -- the metric of the candidate into t through its predecessor b, at the step n
  abbrev pub candidate : ℕ → ℕ → Bool → C
  candidate n t b = K.plus (state_metric n (predecessor X t b)) (branch_into X n t b)

  abbrev pub decision : ℕ → ℕ → Bool
  decision n t = K.less (candidate n t true) (candidate n t false)

  unfoldable pub survivor : ℕ → ℕ → List Bool
  survivor zero t = []
  survivor (suc n) t = decision n t ∷ survivor n (predecessor X t (decision n t))

-- ---- paths, their metrics and their order

-- the newest choice at which u and w differ has at least `since` choices before it
abbrev pub DifferAfter : ℕ → List Bool → List Bool → Type 0
DifferAfter since [] w = ⊥
DifferAfter since (a ∷ u) [] = ⊥
DifferAfter since (false ∷ u) (false ∷ w) = DifferAfter since u w
DifferAfter since (false ∷ u) (true ∷ w) = since ≤ length u
DifferAfter since (true ∷ u) (false ∷ w) = since ≤ length u
DifferAfter since (true ∷ u) (true ∷ w) = DifferAfter since u w

-- the state where a path into t begins
unfoldable pub origin : Numbering → ℕ → List Bool → ℕ
origin N t [] = t
origin N t (b ∷ w) = origin N (N.pred t b) w

-- the word of a path into t
unfoldable pub word : Numbering → ℕ → List Bool → List Bool
word N t [] = []
word N t (b ∷ w) = N.newest t ∷ word N (N.pred t b) w

-- whole-number metrics
module _ (X : Trellis ℕ) where
  unfoldable pub path_metric : ℕ → List Bool → ℕ
  path_metric t [] = X.start t
  path_metric t (b ∷ w) = path_metric (predecessor X t b) w + branch_into X (length w) t b

  -- two paths of n steps into t share the least metric, and differ at a choice after the first `since`
  unfoldable pub tie : ℕ → ℕ → ℕ → Bool
  tie since zero t = false
  tie since (suc n) t =
      cond (eqb (candidate wholes X n t false) (candidate wholes X n t true)) (leb since n)
      (cond (decision wholes X n t) (tie since n (predecessor X t true)) (tie since n (predecessor X t false)))

  pub record TiedPaths (since n t : ℕ) : Type 0 where
    pub one : List Bool
    pub other : List Bool
    pub one_length : length one ≡ n
    pub other_length : length other ≡ n
    pub one_least : path_metric t one ≡ state_metric wholes X n t
    pub other_least : path_metric t other ≡ state_metric wholes X n t
    pub distinct : DifferAfter since one other
