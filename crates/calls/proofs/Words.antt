-- A word's number after one more digit. Assumes nothing.
use mathlib.Core.Path.{◌≡◌, ap, ◌∙◌}
use mathlib.Core.List.{List}
use Prim.Native.Nat.{ℕ, ◌+◌, ◌*◌, ◌≤◌, ◌<◌}
use Rattle.std.proofs.Common.{All, cond, length, get_or, take}
use Rattle.std.proofs.lemmas.Bool.{lt-ltb, le-ltb}
use Rattle.std.proofs.lemmas.List.Elements.{All-more}
use Rattle.std.proofs.lemmas.List.Sums.{fold_more}
use Rattle.text.specs.Lines.{digit_of}
use Rattle.calls.specs.Numerals.{numeral_of, with_digit}

module _ (base bound : ℕ) (word : List ℕ) (i : ℕ) (inside : i < length word) where
  more : numeral_of base bound (take (i + 1) word) ≡ with_digit base bound (numeral_of base bound (take i word)) (get_or word i 0)
  more = fold_more (with_digit base bound) 0 word i 0 inside

  pub taken : numeral_of base bound (take i word) < bound → numeral_of base bound (take (i + 1) word) ≡ numeral_of base bound (take i word) * base + digit_of (get_or word i 0)
  taken low = more ∙ ap (λ b. cond b (numeral_of base bound (take i word) * base + digit_of (get_or word i 0)) (numeral_of base bound (take i word))) (lt-ltb _ _ low)

  pub dropped : bound ≤ numeral_of base bound (take i word) → numeral_of base bound (take (i + 1) word) ≡ numeral_of base bound (take i word)
  dropped high = more ∙ ap (λ b. cond b (numeral_of base bound (take i word) * base + digit_of (get_or word i 0)) (numeral_of base bound (take i word))) (le-ltb _ _ high)

-- and that it is digits, so far
pub digits_more : (word : List ℕ) (i : ℕ) → i < length word → All (λ character. digit_of character < 16) (take i word) → digit_of (get_or word i 0) < 16 → All (λ character. digit_of character < 16) (take (i + 1) word)
digits_more word i inside before next = All-more (λ character. digit_of character < 16) word i 0 inside before next
