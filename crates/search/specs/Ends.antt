-- The lowest of the ends of a search.
use Rattle.std.specs.Prelude.{◌≡◌, Bool, true, false, List, ℕ, ◌<◌, ◌≤◌, ltb, get_or}
use Rattle.search.specs.declared.free.End.{End}

abbrev pub choose : Bool → End → End → End
choose true a b = a
choose false a b = b

unfoldable pub lower_of : End → ℕ → ℕ → End
lower_of d m s =
    choose (ltb m d.outcome.metric) (record { outcome = record { metric = m; tie = false }; state = s })
    (choose (ltb d.outcome.metric m) d (record { outcome = record { metric = d.outcome.metric; tie = true }; state = d.state }))

-- another end below k with the same metric
pub record Other (ms : List ℕ) (k : ℕ) (d : End) : Type 0 where
  pub at : ℕ
  pub low : at < k
  pub same : get_or ms at 0 ≡ d.outcome.metric
  pub apart : at ≡ d.state → ⊥

-- d is the lowest of the ends below k
pub record LowestEnd (ms : List ℕ) (k : ℕ) (d : End) : Type 0 where
  pub low : d.state < k
  pub exact : get_or ms d.state 0 ≡ d.outcome.metric
  pub least : (j : ℕ) → j < k → d.outcome.metric ≤ get_or ms j 0
  pub shared : d.outcome.tie ≡ true → Other ms k d
  pub other : Other ms k d → d.outcome.tie ≡ true
