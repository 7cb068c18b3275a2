-- A list in chunks of n. Assumes nothing.
use mathlib.Core.Path.{◌≡◌, sym, ap, ◌∙◌}
use mathlib.Core.List.{List, []}
use Prim.Native.Nat.{ℕ, zero, suc, ◌*◌, ◌<◌}
use native.Mathlib.Omega.{arith}
use native.Mathlib.Nat.{zero-mul, suc-mul}
use lib.ListN.{get_or, take, drop}
use Rattle.std.specs.Simd.{first_chunks}
use Rattle.std.proofs.lemmas.List.{drop-drop}

pub chunk_at : (n k : ℕ) (l : List ℕ) (i : ℕ) → i < k → get_or (first_chunks n k l) i [] ≡ take n (drop (i * n) l)
chunk_at n zero l i h = let z : ⊥ = omega arith in absurd z
chunk_at n (suc k) l zero h = ap (λ (j : ℕ). take n (drop j l)) (sym (zero-mul n))
chunk_at n (suc k) l (suc i) h =
    chunk_at n k (drop n l) i (omega arith) ∙ ap (take n) (drop-drop (i * n) n l) ∙ ap (λ (j : ℕ). take n (drop j l)) (omega (arith, suc-mul i n))
