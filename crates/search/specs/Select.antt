-- The two candidates into a state: the metrics through its lower and its upper predecessor.
use Rattle.std.specs.Prelude.{cond, ℕ, ◌+◌, ltb, eqb}

unfoldable pub lesser_of : ℕ → ℕ → ℕ
lesser_of lower upper = cond (ltb upper lower) upper lower

unfoldable pub decide_of : ℕ → ℕ → ℕ
decide_of lower upper = cond (ltb upper lower) 16 0

unfoldable pub tie_mark_of : ℕ → ℕ → ℕ
tie_mark_of lower upper = cond (eqb lower upper) 96 0

-- the predecessor byte of a state whose lower predecessor is `from`
abbrev pub byte_of : ℕ → ℕ → ℕ → ℕ
byte_of lower upper from = from + decide_of lower upper + tie_mark_of lower upper
