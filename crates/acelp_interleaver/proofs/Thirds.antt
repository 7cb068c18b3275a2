-- The three frames or slots of a list, as chunks of it: the newest of them, and the oldest. Assumes nothing.
use Rattle.std.proofs.Common.{◌≡◌, ℕ, zero, suc, ◌+◌, ◌-◌, ◌/◌, ◌<◌, ◌≤◌, List, [], length, length-take, length-drop, get_or, take, drop, refl, ap, ◌∙◌, arith}
use Rattle.std.specs.Simd.{first_chunks}
use Rattle.std.proofs.lemmas.List.{get_or-take, get_or-drop}
use lib.Seq.{drop-drop}
use Rattle.acelp_interleaver.specs.Wire.{third}

module _ (all : List ℕ) {chunks : List (List ℕ)} (cut : chunks ≡ first_chunks 260 (length all / 260) all) (size : length all ≡ 780) where
  count : length all / 260 ≡ 3
  count = omega (arith, size)

  chunked : chunks ≡ first_chunks 260 3 all
  chunked = cut ∙ ap (λ (n : ℕ). first_chunks 260 n all) count

  third_at : (k : ℕ) → k < 3 → get_or chunks k [] ≡ third all k
  third_at k h = ap (λ (l : List (List ℕ)). get_or l k []) chunked ∙ go k h
    where
      go : (k : ℕ) → k < 3 → get_or (first_chunks 260 3 all) k [] ≡ third all k
      go zero h = refl
      go (suc zero) h = refl
      go (suc (suc zero)) h = ap (take 260) (drop-drop 260 260 all)
      go (suc (suc (suc k))) h = absurd (omega arith)

  pub newest : {spread : ℕ} → spread ≤ 3
      → (length (take (length chunks - (3 - spread)) (drop (3 - spread) chunks)) ≡ spread)
      × ((i : ℕ) → i < spread → get_or (take (length chunks - (3 - spread)) (drop (3 - spread) chunks)) i [] ≡ third all (2 - (spread - 1 - i)))
  newest {spread} low =
      let three : length chunks ≡ 3 = ap length chunked in (
        length-take (length chunks - (3 - spread)) (drop (3 - spread) chunks) ∙ omega (arith, three, length-drop (3 - spread) chunks),
        λ i h. get_or-take (length chunks - (3 - spread)) (drop (3 - spread) chunks) i [] (omega (arith, three))
            ∙ get_or-drop (3 - spread) chunks i []
            ∙ ap (λ (k : ℕ). get_or chunks k []) (let at : 3 - spread + i ≡ 2 - (spread - 1 - i) = omega arith in at) ∙ third_at (2 - (spread - 1 - i)) (omega arith),
      )

  pub oldest : {spread : ℕ} → spread ≤ 3 → (length (take spread chunks) ≡ spread) × ((i : ℕ) → i < spread → get_or (take spread chunks) i [] ≡ third all i)
  oldest {spread} low =
      let three : length chunks ≡ 3 = ap length chunked in
      (length-take spread chunks ∙ omega (arith, three), λ i h. get_or-take spread chunks i [] h ∙ third_at i (omega arith))
