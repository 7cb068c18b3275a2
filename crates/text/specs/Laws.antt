-- The law of `Buffer`'s model: its bytes are told by what it shows. Assumes nothing.
use mathlib.Core.Path.{◌≡◌, sym, ap, ap₂, ◌∙◌}
use mathlib.Core.List.{List, ◌++◌}
use Prim.Native.Nat.{ℕ, ◌-◌}
use native.Mathlib.Omega.{arith}
use lib.ListN.{length, take, replicate}
use lib.Seq.{length-take-le}
use Rattle.std.proofs.lemmas.List.{take-append-drop}
use Rattle.text.specs.Writing.{Held}

-- they are what it shows, and zeros
pub same_bytes : {A : Type 0} {bytes : List ℕ} {len size : ℕ} → Held size len bytes → (f : List ℕ → ℕ → A)
    → f (take len bytes ++ replicate (size - length (take len bytes)) 0) (length (take len bytes)) ≡ f bytes len
same_bytes {A} {bytes} {len} {size} h f =
    let e : length (take len bytes) ≡ len = length-take-le len bytes (omega (arith, h.within, h.long)) in
    ap₂ f
    (ap (λ (n : ℕ). take len bytes ++ replicate (size - n) 0) e ∙ ap (λ (l : List ℕ). take len bytes ++ l) (sym h.behind) ∙ take-append-drop len bytes)
    e
