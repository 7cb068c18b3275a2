-- A ring of d places that is written round and round holds the newest d of a stream, oldest first. Assumes nothing.
use mathlib.Core.Path.{◌≡◌, sym, ◌∙◌, ap}
use mathlib.Core.Logic.{◌≢◌}
use mathlib.Core.List.{List}
use Prim.Native.Nat.{ℕ, suc, ◌+◌, ◌-◌, ◌%◌, ◌<◌}
use native.Mathlib.Nat.{mod-eq_of_lt, mod-add-mod, mod-eq-sub-mod, add-mod_right}
use native.Mathlib.Decide.{dec_lt}
use native.Mathlib.Omega.{arith}
use lib.ListN.{get_or, set, length}
use lib.Seq.{get_or-set_same, get_or-set_other}

-- the places of l, from c on and round, hold the stream's elements n to n + d - 1; the oldest is at c
abbrev pub Holds : ℕ → List ℕ → ℕ → (ℕ → ℕ) → ℕ → Type 0
Holds d l c stream n = (i : ℕ) → i < d → get_or l ((c + i) % d) 0 ≡ stream (n + i)

other_place : (d c k : ℕ) → c < d → 0 < k → k < d → (c + k) % d ≢ c
other_place d c k hc hk hd e = elim (dec_lt (c + k) d) [
  | yes h ↦ let m : (c + k) % d ≡ c + k = mod-eq_of_lt h in omega arith
  | no h ↦ let m : (c + k) % d ≡ (c + k - d) % d = mod-eq-sub-mod (omega arith) in
      let m' : (c + k - d) % d ≡ c + k - d = mod-eq_of_lt (omega arith) in omega arith
]

-- the newest is written over the oldest
pub holds_next : (d : ℕ) (l : List ℕ) (c : ℕ) (stream : ℕ → ℕ) (n x : ℕ) → length l ≡ d → c < d → stream (n + d) ≡ x
    → Holds d l c stream n → Holds d (set l c x) ((c + 1) % d) stream (suc n)
holds_next d l c stream n x len hc e h i hi = elim (dec_lt (suc i) d) [
  | yes lt ↦
      ap (λ (k : ℕ). get_or (set l c x) k 0) (mod-add-mod (c + 1) d i ∙ ap (λ (k : ℕ). k % d) (omega arith))
      ∙ get_or-set_other l c ((c + suc i) % d) x 0 (other_place d c (suc i) hc (omega arith) lt)
      ∙ h (suc i) lt ∙ ap stream (omega arith)
  | no ge ↦
      ap (λ (k : ℕ). get_or (set l c x) k 0) (mod-add-mod (c + 1) d i ∙ ap (λ (k : ℕ). k % d) (omega arith) ∙ add-mod_right c d ∙ mod-eq_of_lt hc)
      ∙ get_or-set_same l c x 0 (omega arith)
      ∙ sym e ∙ ap stream (omega arith)
]
