-- A copy to the end of a list. Assumes nothing.
use mathlib.Core.Path.{◌≡◌, ap, ◌∙◌}
use mathlib.Core.List.{List, ◌++◌, append-nil}
use Prim.Native.Nat.{ℕ, ◌+◌, ◌≤◌}
use lib.ListN.{length, take, drop_of_length-le}
use lib.Seq.{drop-drop}
use borrow.Rule.Slice.PartMut.{put_mid}

pub to_end : (at n : ℕ) (l part : List ℕ) → length l ≤ at + n → put_mid at n l part ≡ take at l ++ part
to_end at n l part h =
    ap (λ (r : List ℕ). take at l ++ (part ++ r)) (drop-drop n at l ∙ drop_of_length-le l h) ∙ ap (λ (r : List ℕ). take at l ++ r) (append-nil part)
