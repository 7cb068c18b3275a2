-- A frame that slots carry is collected again. Assumes nothing.
use mathlib.Core.Path.{◌≡◌, refl, sym, ap, ◌∙◌}
use mathlib.Core.Bool.{Bool, true, false, cond}
use mathlib.Core.List.{List}
use Prim.Native.Nat.{ℕ, ◌/◌, ◌%◌, ◌<◌}
use native.Mathlib.Omega.{arith}
use lib.Dec.{eqb}
use lib.ListN.{length, get_or}
use Rattle.bits.proofs.Listed.{is_listed, get_d_listed}
use Rattle.interleaving.specs.Slots.{carried, collected, by_row}

-- wire p is the bit that carries the place p
module _ {A : Type 0} (d : A) (place wire : ℕ → ℕ) (below : (p : ℕ) → p < 260 → wire p < 260) (back : (p : ℕ) → p < 260 → place (wire p) ≡ p) where
  -- The slot of row r carries the frames of r, whose row r is of the frame x.
  pub collected-carried : (slot : ℕ → List A) (frames : ℕ → ℕ → List A) (x : List A) → length x ≡ 260 → ((r : ℕ) → r < 26 → slot r ≡ carried d place (frames r))
      → ((r : ℕ) → r < 26 → frames r r ≡ x) → collected d wire slot ≡ x
  unfolding carried collected
  collected-carried slot frames x size carries same = sym (is_listed 260 _ d x size (λ p h. sym (go (wire p) (below p h) ∙ ap (λ (q : ℕ). get_or x q d) (back p h))))
    where
      go : (w : ℕ) → w < 260 → get_or (slot (w / 10)) w d ≡ get_or x (place w) d
      go w h =
          ap (λ (l : List A). get_or l w d) (carries (w / 10) (omega arith))
          ∙ get_d_listed 260 (λ (v : ℕ). get_or (frames (w / 10) (v / 10)) (place v) d) d w h
          ∙ ap (λ (l : List A). get_or l (place w) d) (same (w / 10) (omega arith))

  -- two slots: the frame's even rows are in the second, its odd rows in the first; the frames before and after it do not matter
  pub between_two : (before frame after : List A) → length frame ≡ 260
      → collected d wire (by_row (carried d place (by_row frame after)) (carried d place (by_row before frame))) ≡ frame
  between_two before frame after size =
      collected-carried _ (λ r. by_row (by_row frame after) (by_row before frame) r) frame size (λ r h. carries (eqb (r % 2) 0)) (λ r h. same r (eqb (r % 2) 0) refl)
    where
      carries : (t : Bool) → cond t (carried d place (by_row frame after)) (carried d place (by_row before frame)) ≡ carried d place (cond t (by_row frame after) (by_row before frame))
      carries true = refl
      carries false = refl

      same : (r : ℕ) (t : Bool) → eqb (r % 2) 0 ≡ t → cond t (by_row frame after) (by_row before frame) r ≡ frame
      same r true e = ap (λ (b : Bool). cond b frame after) e
      same r false e = ap (λ (b : Bool). cond b before frame) e
