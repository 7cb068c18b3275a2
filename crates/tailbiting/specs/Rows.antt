-- The rows of branch metrics, by place (search/specs/Row.antt).
use Rattle.std.specs.Prelude.{◌≡◌, List, [], ℕ, ◌+◌, ◌*◌, ◌<◌, get_or}
use Rattle.coding.specs.Codes.{facch}
use Rattle.search.specs.Row.{output_at, taps}
use Rattle.bits.specs.Observed.{erased_differ}

-- the branch metric of a place against four received bytes
abbrev pub cost_at : ℕ → ℕ → ℕ → ℕ → ℕ → ℕ
cost_at place a b c d =
    erased_differ (output_at (taps facch 0) place) a + erased_differ (output_at (taps facch 1) place) b + (erased_differ (output_at (taps facch 2) place) c + erased_differ (output_at (taps facch 3) place) d)

-- the first k places of a row hold the branch metrics against four received bytes
abbrev pub CostsTo : ℕ → ℕ → ℕ → ℕ → List ℕ → ℕ → Type 0
CostsTo a b c d row k = (place : ℕ) → place < k → get_or row place 0 ≡ cost_at place a b c d

-- a row is that of the step k
abbrev pub RowOf : List ℕ → ℕ → List ℕ → Type 0
RowOf received k row = CostsTo (get_or received (k * 4) 0) (get_or received (k * 4 + 1) 0) (get_or received (k * 4 + 2) 0) (get_or received (k * 4 + 3) 0) row 64

-- the first n rows are those of their steps
abbrev pub RowsTo : List ℕ → List (List ℕ) → ℕ → Type 0
RowsTo received rows n = (k : ℕ) → k < n → RowOf received k (get_or rows k [])

-- each of the first n steps has a row of its own
abbrev pub NumbersTo : List ℕ → ℕ → Type 0
NumbersTo symbols n = (k : ℕ) → k < n → get_or symbols k 0 ≡ k
