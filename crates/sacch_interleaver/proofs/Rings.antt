-- What a ring of d places holds from the start: its d places, then what is written. Assumes nothing.
use mathlib.Core.Path.{◌≡◌, sym, ◌∙◌, ap}
use mathlib.Core.Bool.{Bool, cond}
use mathlib.Core.List.{List}
use Prim.Native.Nat.{ℕ, ◌+◌, ◌-◌, ◌%◌, ◌≤◌}
use native.Mathlib.Nat.{zero-add}
use native.Mathlib.Omega.{arith}
use borrow.Author.Tests.{lt-ltb, le-ltb}
use lib.Dec.{ltb}
use lib.ListN.{get_or}
use Rattle.bits.proofs.Ring.{Holds}

abbrev pub after : ℕ → List ℕ → ℕ → (ℕ → ℕ) → ℕ → ℕ
after d l c X k = cond (ltb k d) (get_or l ((c + k) % d) 0) (X (k - d))

pub after_start : (d : ℕ) (l : List ℕ) (c : ℕ) (X : ℕ → ℕ) → Holds d l c (after d l c X) 0
after_start d l c X i h =
    sym (ap (after d l c X) (zero-add i) ∙ ap (λ (b : Bool). cond b (get_or l ((c + i) % d) 0) (X (i - d))) (lt-ltb i d h))

pub after_then : (d : ℕ) (l : List ℕ) (c : ℕ) (X : ℕ → ℕ) (i k : ℕ) → k ≡ i + d → after d l c X k ≡ X i
after_then d l c X i k e =
    let le : d ≤ k = omega arith in
    let back : k - d ≡ i = omega arith in
    ap (λ (b : Bool). cond b (get_or l ((c + k) % d) 0) (X (k - d))) (le-ltb k d le) ∙ ap X back
