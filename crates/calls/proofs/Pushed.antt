-- One more byte, where there is room for 800. Assumes nothing.
use mathlib.Core.Path.{◌≡◌, sym, ◌∙◌, ap}
use mathlib.Core.List.{List, [], ◌∷◌, ◌++◌}
use Prim.Native.Nat.{ℕ, ◌+◌, ◌≤◌, ◌<◌}
use native.Mathlib.Omega.{arith}
use Rattle.std.proofs.Common.{length, set, take, length-append, length-take-le}
use Rattle.std.proofs.lemmas.List.{take-append-le, take_more_set, take_all}

module _ (list : List ℕ) (n byte : ℕ) (room : length list ≡ 800) where
  pub pushed : n < 800 → take (n + 1) (set list n byte) ≡ take 800 (take n list ++ byte ∷ [])
  pushed low =
      let inside : n < length list = omega arith in
      let fits : n ≤ length list = omega arith in
      let front : length (take n list) ≡ n = length-take-le n list fits in
      let all : length (take n list ++ byte ∷ []) ≤ 800 = omega (arith, length-append (take n list) (byte ∷ []), front) in
      take_more_set list n byte inside ∙ sym (take_all 800 (take n list ++ byte ∷ []) all)

  pub not_pushed : 800 ≤ n → take n list ≡ take 800 (take n list ++ byte ∷ [])
  not_pushed high =
      let all : length list ≤ n = omega arith in
      let most : length list ≤ 800 = omega arith in
      let least : 800 ≤ length list = omega arith in
      let whole : take n list ≡ list = take_all n list all in
      whole ∙ sym (take_all 800 list most) ∙ sym (take-append-le 800 list (byte ∷ []) least) ∙ ap (λ l. take 800 (l ++ byte ∷ [])) (sym whole)
