-- A slot carries 260 bits, 26 rows of ten; a frame has 260 places. Each bit of a slot carries a place, and each row belongs to one of successive frames.
-- d stands for an element that a list lacks.
use Rattle.std.specs.Prelude.{cond, List, ℕ, ◌/◌, ◌%◌, eqb, get_or}
use Rattle.bits.specs.Places.{listed}

module _ {A : Type 0} (d : A) where
  -- The slot that carries frames: bit w is that of its row's frame, at the place that w carries.
  unfoldable pub carried : (ℕ → ℕ) → (ℕ → List A) → List A
  carried place frame = listed 260 (λ (w : ℕ). get_or (frame (w / 10)) (place w) d)

  -- The frame that slots carry: place p is the bit of its row's slot that carries p.
  unfoldable pub collected : (ℕ → ℕ) → (ℕ → List A) → List A
  collected wire slot = listed 260 (λ (p : ℕ). get_or (slot (wire p / 10)) (wire p) d)

-- even rows of one thing, odd rows of another
abbrev pub by_row : {A : Type 0} → A → A → ℕ → A
by_row even odd row = cond (eqb (row % 2) 0) even odd
