-- What is sent of the coded bits, by a mask over them: the bits that it keeps, and what was received spread over all places again. Assumes nothing.
use mathlib.Core.Path.{◌≡◌, refl, sym, ap, ◌∙◌}
use mathlib.Core.Bool.{Bool, true, false, cond}
use mathlib.Core.List.{List, [], ◌∷◌, ◌++◌, append-nil}
use Prim.Native.Nat.{ℕ, zero, suc, ◌+◌, ◌≤◌}
use native.Mathlib.Omega.{arith}
use native.Mathlib.Nat.{zero-add}
use lib.ListN.{length, get_or, take, drop, replicate}
use lib.Seq.{drop-drop}
use Rattle.bits.specs.Bits.{byte, disagreement, tally, disagreements}
use Rattle.bits.proofs.Tally.{tally_nil}
use Rattle.puncturing.specs.Punctured.{sent_of}

-- ---- the mask: 26 pairs and one that is not sent, four times
abbrev block : List Bool → List Bool
block mask = replicate 52 true ++ (false ∷ false ∷ mask)

unfoldable pub sent_mask : List Bool
sent_mask = block (block (block (block [])))

-- the elements that a mask keeps
unfoldable pub kept : {A : Type 0} → List Bool → List A → List A
kept [] l = []
kept (b ∷ mask) [] = []
kept (true ∷ mask) (x ∷ l) = x ∷ kept mask l
kept (false ∷ mask) (x ∷ l) = kept mask l

module _ {A : Type 0} where
  pub kept_nil : (mask : List Bool) → kept {A = A} mask [] ≡ []
  unfolding kept
  kept_nil [] = refl
  kept_nil (b ∷ mask) = refl

  kept_run : (n : ℕ) (mask : List Bool) (l : List A) → kept (replicate n true ++ mask) l ≡ take n l ++ kept mask (drop n l)
  unfolding kept
  kept_run zero mask l = refl
  kept_run (suc n) mask [] = sym (kept_nil mask)
  kept_run (suc n) mask (x ∷ l) = ap (λ (r : List A). x ∷ r) (kept_run n mask l)

  kept_gap : (mask : List Bool) (l : List A) → kept (false ∷ false ∷ mask) l ≡ kept mask (drop 2 l)
  unfolding kept
  kept_gap mask [] = sym (kept_nil mask)
  kept_gap mask (x ∷ []) = sym (kept_nil mask)
  kept_gap mask (x ∷ y ∷ l) = refl

  kept_block : (mask : List Bool) (l : List A) → kept (block mask) l ≡ take 52 l ++ kept mask (drop 54 l)
  kept_block mask l =
      kept_run 52 (false ∷ false ∷ mask) l
      ∙ ap (λ (r : List A). take 52 l ++ r) (kept_gap mask (drop 52 l) ∙ ap (kept mask) (drop-drop 2 52 l))

pub sent_kept : (l : List Bool) → sent_of l ≡ kept sent_mask l
unfolding sent_of sent_mask kept
sent_kept l =
    let part : ℕ → List Bool → List Bool = λ n r. take 52 (drop n l) ++ r in
    sym
    (kept_block (block (block (block []))) l
    ∙ ap (λ (r : List Bool). take 52 l ++ r)
    (kept_block (block (block [])) (drop 54 l)
    ∙ ap (part 54) (ap (kept (block (block []))) (drop-drop 54 54 l) ∙ kept_block (block []) (drop 108 l)
    ∙ ap (part 108) (ap (kept (block [])) (drop-drop 54 108 l) ∙ kept_block [] (drop 162 l) ∙ append-nil _))))

-- ---- what was received, spread over the places
pub data Observation : Type 0 where
  observed : Bool → Observation
  unobserved : Observation

unfoldable pub spread : List Bool → List Bool → List Observation
spread [] r = []
spread (false ∷ mask) r = unobserved ∷ spread mask r
spread (true ∷ mask) [] = observed false ∷ spread mask []
spread (true ∷ mask) (y ∷ r) = observed y ∷ spread mask r

-- how many places are kept of those before a place
unfoldable pub rank : List Bool → ℕ → ℕ
rank [] j = 0
rank (b ∷ mask) zero = 0
rank (b ∷ mask) (suc j) = byte b + rank mask j

pub spread_length : (mask r : List Bool) → length (spread mask r) ≡ length mask
unfolding spread
spread_length [] r = refl
spread_length (false ∷ mask) r = ap suc (spread_length mask r)
spread_length (true ∷ mask) [] = ap suc (spread_length mask [])
spread_length (true ∷ mask) (y ∷ r) = ap suc (spread_length mask r)

pub spread_at : (mask r : List Bool) (j : ℕ) → get_or (spread mask r) j unobserved ≡ cond (get_or mask j false) (observed (get_or r (rank mask j) false)) unobserved
unfolding spread rank
spread_at [] r j = refl
spread_at (false ∷ mask) r zero = refl
spread_at (false ∷ mask) r (suc j) = spread_at mask r j ∙ ap (λ (i : ℕ). cond (get_or mask j false) (observed (get_or r i false)) unobserved) (sym (zero-add _))
spread_at (true ∷ mask) [] zero = refl
spread_at (true ∷ mask) [] (suc j) = spread_at mask [] j
spread_at (true ∷ mask) (y ∷ r) zero = refl
spread_at (true ∷ mask) (y ∷ r) (suc j) =
    let e : suc (rank mask j) ≡ 1 + rank mask j = omega arith in
    spread_at mask r j ∙ ap (λ (i : ℕ). cond (get_or mask j false) (observed (get_or (y ∷ r) i false)) unobserved) e

-- ---- a silent place costs nothing
abbrev pub cost : Bool → Observation → ℕ
cost b (observed x) = disagreement b x
cost b unobserved = 0

pub tally_spread : (mask l r : List Bool) → rank mask (length mask) ≤ length r → tally cost l (spread mask r) ≡ disagreements (kept mask l) r
unfolding spread kept rank tally
tally_spread [] l r h = tally_nil cost l
tally_spread (false ∷ mask) [] r h = refl
tally_spread (false ∷ mask) (x ∷ l) r h = zero-add _ ∙ tally_spread mask l r (omega arith)
tally_spread (true ∷ mask) l [] h = absurd (omega arith)
tally_spread (true ∷ mask) [] (y ∷ r) h = refl
tally_spread (true ∷ mask) (x ∷ l) (y ∷ r) h = ap (λ (n : ℕ). disagreement x y + n) (tally_spread mask l r (omega arith))
