-- Some of 260 bytes are written: those of a row of a slot, or of every so many rows, or the places that these carry.
use Rattle.std.specs.Prelude.{◌≡◌, Bool, cond, List, ℕ, ◌/◌, ◌<◌, length, get_or}
use Rattle.interleaving.specs.Orders.{at_wire}

-- the bytes of a part are f's, and the others are as they were
pub record Part (Of : ℕ → Type 0) (f : ℕ → ℕ) (out₀ out : List ℕ) : Type 0 where
  pub size : length out ≡ 260
  pub right : (p : ℕ) → p < 260 → Of p → get_or out p 0 ≡ f p
  pub kept : (p : ℕ) → p < 260 → (Of p → ⊥) → get_or out p 0 ≡ get_or out₀ p 0

-- Rows are copied: to the bits of a slot from the places of a frame, or to the places of a frame from the bits of a slot that carry them.
-- The bit that belongs to what is written, and the place or bit that is read for it:
abbrev pub wire_for : Bool → (ℕ → ℕ) → ℕ → ℕ
wire_for carries wire_of p = cond carries p (wire_of p)

abbrev pub read_for : Bool → (ℕ → ℕ → ℕ) → (ℕ → ℕ) → ℕ → ℕ
read_for carries place_of wire_of p = cond carries (at_wire place_of p) (wire_of p)

abbrev pub Copied : Bool → (ℕ → ℕ → ℕ) → (ℕ → ℕ) → (ℕ → Type 0) → List ℕ → List ℕ → List ℕ → Type 0
Copied carries place_of wire_of Row from to₀ to =
    Part (λ p. Row (wire_for carries wire_of p / 10)) (λ p. get_or from (read_for carries place_of wire_of p) 0) to₀ to
