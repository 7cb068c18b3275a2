-- The first n elements of a list, lent to a call: their number, what they become, and the whole after it. Assumes nothing.
use mathlib.Core.Path.{◌≡◌, sym, ◌∙◌}
use mathlib.Core.List.{List, ◌++◌}
use Prim.Native.Nat.{ℕ, ◌≤◌}
use lib.ListN.{length, take, drop}
use lib.Seq.{length-take-le, take_at}

pub part_length : {A : Type 0} (n : ℕ) (l : List A) → n ≤ length l → n ≡ length (take n l)
part_length n l h = sym (length-take-le n l h)

-- the part became ps
module _ {A : Type 0} (n : ℕ) (l : List A) (h : n ≤ length l) (ps : List A) (kept : length ps ≡ length (take n l)) where
  pub became_length : length ps ≡ n
  became_length = kept ∙ length-take-le n l h

  pub became : take n (ps ++ drop n l) ≡ ps
  became = take_at ps (drop n l) n became_length
