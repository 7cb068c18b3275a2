-- Each coded bit of a word by its place: step s of the tail-biting coder taps the bits s to s + 5 of the word taken as a circle. Assumes nothing.
use mathlib.Core.Path.{◌≡◌, refl, sym, ap, ap₂, ◌∙◌}
use mathlib.Core.Bool.{Bool, false}
use mathlib.Core.List.{List, [], ◌∷◌, ◌++◌, reverse}
use Prim.Native.Nat.{ℕ, zero, suc, ◌+◌, ◌-◌, ◌*◌, ◌%◌, ◌≤◌, ◌<◌}
use native.Mathlib.Omega.{arith}
use native.Mathlib.Decide.{dec_lt}
use lib.ListN.{length, get_or, take, drop, length-append, length-drop, take-append-drop, get_or-append}
use lib.Seq.{length-take-le, get_or-append-add}
use Rattle.coding.specs.Codes.{tapped, outputs, coded, facch}
use Rattle.facch.specs.Words.{tail_biting}

-- the six bits that step s taps, newest first
abbrev pub window : (ℕ → Bool) → ℕ → List Bool
window x s = x (s + 5) ∷ x (s + 4) ∷ x (s + 3) ∷ x (s + 2) ∷ x (s + 1) ∷ x s ∷ []

-- what generator k sends at step s
abbrev pub sent : (ℕ → Bool) → ℕ → ℕ → Bool
sent x k s = tapped (get_or facch k []) (window x s)

-- the word as a circle, from bit m on
abbrev pub circle : List Bool → ℕ → ℕ → Bool
circle w m i = get_or w ((m + i) % 65) false

-- ---- a run over the bits x 5, x 6 and on, after x 4 to x 0
first_step : (x : ℕ → Bool) (older u : List Bool) (k : ℕ) → k < 4
    → get_or (coded facch (x 4 ∷ x 3 ∷ x 2 ∷ x 1 ∷ x 0 ∷ older) (x 5 ∷ u)) k false ≡ sent x k 0
unfolding coded tapped
first_step x older u zero h = refl
first_step x older u (suc zero) h = refl
first_step x older u (suc (suc zero)) h = refl
first_step x older u (suc (suc (suc zero))) h = refl
first_step x older u (suc (suc (suc (suc k)))) h = absurd (omega arith)

later_step : (before u : List Bool) (b : Bool) (p : ℕ) → get_or (coded facch before (b ∷ u)) (4 + p) false ≡ get_or (coded facch (b ∷ before) u) p false
unfolding coded
later_step before u b p = get_or-append-add (outputs facch (b ∷ before)) (coded facch (b ∷ before) u) p false

window_next : (x : ℕ → Bool) (s : ℕ) → window (λ i. x (suc i)) s ≡ window x (suc s)
window_next x s =
    let e : (i : ℕ) → suc (s + i) ≡ suc s + i = λ i. omega arith in
    λ j. x (e 5 j) ∷ x (e 4 j) ∷ x (e 3 j) ∷ x (e 2 j) ∷ x (e 1 j) ∷ x (suc s) ∷ []

run_sends : (x : ℕ → Bool) (older u : List Bool) → ((i : ℕ) → i < length u → get_or u i false ≡ x (i + 5))
    → (s : ℕ) → s < length u → (k : ℕ) → k < 4
    → get_or (coded facch (x 4 ∷ x 3 ∷ x 2 ∷ x 1 ∷ x 0 ∷ older) u) (s * 4 + k) false ≡ sent x k s
run_sends x older [] e s h k hk = absurd (omega arith)
run_sends x older (b ∷ u) e zero h k hk =
    let before : List Bool = x 4 ∷ x 3 ∷ x 2 ∷ x 1 ∷ x 0 ∷ older in
    ap₂ (λ (c : Bool) (p : ℕ). get_or (coded facch before (c ∷ u)) p false) (e 0 h) (omega arith) ∙ first_step x older u k hk
run_sends x older (b ∷ u) e (suc s) h k hk =
    let before : List Bool = x 4 ∷ x 3 ∷ x 2 ∷ x 1 ∷ x 0 ∷ older in
    let p : suc s * 4 + k ≡ 4 + (s * 4 + k) = omega arith in
    let q : (i : ℕ) → suc i + 5 ≡ suc (i + 5) = λ i. omega arith in
    ap (λ (n : ℕ). get_or (coded facch before (b ∷ u)) n false) p ∙ later_step before u b (s * 4 + k)
    ∙ ap (λ (c : Bool). get_or (coded facch (c ∷ before) u) (s * 4 + k) false) (e 0 (omega arith))
    ∙ run_sends (λ i. x (suc i)) (x 0 ∷ older) u (λ i hi. e (suc i) (omega arith) ∙ ap x (q i)) s (omega arith) k hk
    ∙ ap (tapped (get_or facch k [])) (window_next x s)

-- ---- a word
-- the coder's memory at the start
memory : (w : List Bool) → 5 ≤ length w
    → reverse (take 5 w) ≡ get_or w 4 false ∷ get_or w 3 false ∷ get_or w 2 false ∷ get_or w 1 false ∷ get_or w 0 false ∷ []
memory (a ∷ b ∷ c ∷ d ∷ e ∷ w) h = refl
memory [] h = absurd (omega arith)
memory (a ∷ []) h = absurd (omega arith)
memory (a ∷ b ∷ []) h = absurd (omega arith)
memory (a ∷ b ∷ c ∷ []) h = absurd (omega arith)
memory (a ∷ b ∷ c ∷ d ∷ []) h = absurd (omega arith)

-- the order of its inputs
turned : (front back : List Bool) → length front ≡ 5 → length back ≡ 60 → (i : ℕ) → i < 65
    → get_or (back ++ front) i false ≡ circle (front ++ back) 0 (i + 5)
turned front back f b i h = elim (dec_lt i 60) [
  | yes g ↦
      let p : length front + i ≡ (0 + (i + 5)) % 65 = omega arith in
      get_or-append back front false i (omega arith) ∙ sym (get_or-append-add front back i false) ∙ ap (λ (n : ℕ). get_or (front ++ back) n false) p
  | no g ↦
      let p : i ≡ length back + (i - 60) = omega arith in
      let q : i - 60 ≡ (0 + (i + 5)) % 65 = omega arith in
      ap (λ (n : ℕ). get_or (back ++ front) n false) p ∙ get_or-append-add back front (i - 60) false
      ∙ sym (get_or-append front back false (i - 60) (omega arith)) ∙ ap (λ (n : ℕ). get_or (front ++ back) n false) q
]

module _ (w : List Bool) (size : length w ≡ 65) where
  inputs : (i : ℕ) → i < length (drop 5 w ++ take 5 w) → get_or (drop 5 w ++ take 5 w) i false ≡ circle w 0 (i + 5)
  inputs i h =
      let f : length (take 5 w) ≡ 5 = length-take-le 5 w (omega arith) in
      let b : length (drop 5 w) ≡ 60 = omega (arith, length-drop 5 w) in
      turned (take 5 w) (drop 5 w) f b i (omega (arith, length-append (drop 5 w) (take 5 w)))
      ∙ ap (λ (l : List Bool). circle l 0 (i + 5)) (take-append-drop 5 w)

  word_sends : (s : ℕ) → s < 65 → (k : ℕ) → k < 4 → get_or (tail_biting w) (s * 4 + k) false ≡ sent (circle w 0) k s
  unfolding tail_biting
  word_sends s h k hk =
      let f : length (take 5 w) ≡ 5 = length-take-le 5 w (omega arith) in
      ap (λ (l : List Bool). get_or (coded facch l (drop 5 w ++ take 5 w)) (s * 4 + k) false) (memory w (omega arith))
      ∙ run_sends (circle w 0) [] (drop 5 w ++ take 5 w) inputs s (omega (arith, length-append (drop 5 w) (take 5 w), length-drop 5 w)) k hk

  -- counted from bit m
  pub sends : (m s k : ℕ) → k < 4 → get_or (tail_biting w) ((m + s) % 65 * 4 + k) false ≡ sent (circle w m) k s
  sends m s k h =
      let e : (i : ℕ) → (0 + ((m + s) % 65 + i)) % 65 ≡ (m + (s + i)) % 65 = λ i. omega arith in
      let z : (0 + (m + s) % 65) % 65 ≡ (m + s) % 65 = omega arith in
      let at : ℕ → Bool = λ n. get_or w n false in
      word_sends ((m + s) % 65) (omega arith) k h
      ∙ ap (tapped (get_or facch k [])) (λ j. at (e 5 j) ∷ at (e 4 j) ∷ at (e 3 j) ∷ at (e 2 j) ∷ at (e 1 j) ∷ at (z j) ∷ [])
