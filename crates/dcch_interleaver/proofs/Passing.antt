-- The loops that pass the wires in order, at each wire its cell: what is left of the order, and what the wires passed hold, or what their cells hold.
-- A cell that was written is not written again, since each cell has one wire. Assumes nothing.
use Rattle.std.proofs.Common.{◌≡◌, Bool, true, false, cond, ℕ, suc, zero, ◌+◌, ◌-◌, ◌<◌, ◌≤◌, List, [], ◌∷◌, ◌++◌, length, get_or, set, drop, length-drop, refl, sym, ap, subst, ◌∙◌, append_assoc, append-nil, arith}
use Rattle.std.proofs.lemmas.List.{get_or_read, drop_more}
use native.Mathlib.Decide.{ℕ_discrete}
use native.Mathlib.Nat.{not-suc-le-zero}
use lib.ListN.{length-set}
use lib.Seq.{get_or-set_same, get_or-set_other}
use borrow.Author.Tests.{lt-ltb, le-ltb}
use Rattle.bits.proofs.Filled.{Filling, filling_none, filling_more}
use Rattle.bits.proofs.Listed.{is_listed}
use Rattle.dcch_interleaver.specs.declared.BlockFormat.{BlockFormat}
use Rattle.dcch_interleaver.specs.Formats.{encoded_bits, rows_of}
use Rattle.dcch_interleaver.specs.Wire.{across, every_second, wire_order, cell_at, wire_of, interleaved, deinterleaved}
use Rattle.dcch_interleaver.proofs.Wiring.{order_length, format_small, cell_below, wire_below, wire_of_cell, cell_of_wire}

-- ---- what is left of the order from a wire on
abbrev pub Left : BlockFormat → ℕ → List ℕ → Type 0
Left f wire l = drop wire (wire_order f) ≡ l

at_left : (order : List ℕ) (wire x : ℕ) (l : List ℕ) → drop wire order ≡ x ∷ l → (wire < length order) × (x ≡ get_or order wire 0) × (drop (wire + 1) order ≡ l)
at_left order wire x l e =
    let size : length order - wire ≡ suc (length l) = sym (length-drop wire order) ∙ ap length e in
    let within : wire < length order = omega (arith, size) in
    let same : x ∷ l ≡ get_or order wire 0 ∷ drop (wire + 1) order = sym e ∙ drop_more order wire 0 within in
    (within, ap (λ (m : List ℕ). get_or m 0 0) same, sym (ap (drop 1) same))

left_cell : (f : BlockFormat) (wire cell : ℕ) (l : List ℕ) → Left f wire (cell ∷ l) → (wire < encoded_bits f) × (cell ≡ cell_at f wire) × Left f (wire + 1) l
unfolding cell_at
left_cell f wire cell l e =
    let a = at_left (wire_order f) wire cell l e in
    (omega (arith, a.0, order_length f), a.1, a.2)

left_none : (f : BlockFormat) (wire : ℕ) → Left f wire [] → encoded_bits f ≤ wire
left_none f wire e = let size : length (wire_order f) - wire ≡ 0 = sym (length-drop wire (wire_order f)) ∙ ap length e in omega (arith, size, order_length f)

-- ---- a row: what is left are its cells from one on, and the rows after it
across_more : (rows cells k cell : ℕ) → cell < cells → across rows cells (suc k) cell ≡ cell ∷ across rows cells k (cell + rows)
unfolding across
across_more rows cells k cell h = rw (lt-ltb cell cells h)

across_none : (rows cells k cell : ℕ) → cells ≤ cell → across rows cells k cell ≡ []
unfolding across
across_none rows cells zero cell h = refl
across_none rows cells (suc k) cell h = rw (le-ltb cell cells h)

rows_more : (rows cells k row : ℕ) → row < rows → every_second rows cells (suc k) row ≡ across rows cells cells row ++ every_second rows cells k (row + 2)
unfolding every_second
rows_more rows cells k row h = rw (lt-ltb row rows h)

rows_none : (rows cells k row : ℕ) → rows ≤ row → every_second rows cells k row ≡ []
unfolding every_second
rows_none rows cells zero row h = refl
rows_none rows cells (suc k) row h = rw (le-ltb row rows h)

-- what comes after the even rows, or after the odd rows
unfoldable pub after : BlockFormat → ℕ → List ℕ
after f zero = every_second (rows_of f) (encoded_bits f) (rows_of f) 1
after f (suc first) = []

-- before a row of the rows from `first` on
pub record Rows (f : BlockFormat) (first row wire : ℕ) : Type 0 where
  pub turns : ℕ
  pub enough : rows_of f ≤ row + turns
  pub left : Left f wire (every_second (rows_of f) (encoded_bits f) turns row ++ after f first)

-- before a cell of a row
pub record Cells (f : BlockFormat) (first row cell wire : ℕ) : Type 0 where
  pub turns : ℕ
  pub enough : encoded_bits f ≤ cell + turns
  pub row_turns : ℕ
  pub rows_enough : rows_of f ≤ row + 2 + row_turns
  pub left : Left f wire (across (rows_of f) (encoded_bits f) turns cell ++ (every_second (rows_of f) (encoded_bits f) row_turns (row + 2) ++ after f first))

module _ {f : BlockFormat} {first row wire : ℕ} (s : Rows f first row wire) where
  -- a row begins
  pub row_begins : row < rows_of f → Cells f first row row wire
  row_begins h = go s.turns s.enough s.left
    where
      go : (k : ℕ) → rows_of f ≤ row + k → Left f wire (every_second (rows_of f) (encoded_bits f) k row ++ after f first) → Cells f first row row wire
      go zero e l = absurd (omega arith)
      go (suc k) e l =
          record {
            turns = encoded_bits f;
            enough = omega arith;
            row_turns = k;
            rows_enough = omega arith;
            left = l ∙ ap (λ (m : List ℕ). m ++ after f first) (rows_more (rows_of f) (encoded_bits f) k row h)
                ∙ append_assoc (across (rows_of f) (encoded_bits f) (encoded_bits f) row) (every_second (rows_of f) (encoded_bits f) k (row + 2)) (after f first);
          }

  -- no row is left
  rows_ended : rows_of f ≤ row → Left f wire (after f first)
  rows_ended h = s.left ∙ ap (λ (m : List ℕ). m ++ after f first) (rows_none (rows_of f) (encoded_bits f) s.turns row h)

module _ {f : BlockFormat} {first row cell wire : ℕ} (s : Cells f first row cell wire) where
  -- the wire's cell, and then the next of its row
  pub cell_passed : cell < encoded_bits f → (wire < encoded_bits f) × (cell ≡ cell_at f wire) × Cells f first row (cell + rows_of f) (wire + 1)
  cell_passed h = go s.turns s.enough s.left
    where
      go : (k : ℕ) → encoded_bits f ≤ cell + k → Left f wire (across (rows_of f) (encoded_bits f) k cell ++ (every_second (rows_of f) (encoded_bits f) s.row_turns (row + 2) ++ after f first))
          → (wire < encoded_bits f) × (cell ≡ cell_at f wire) × Cells f first row (cell + rows_of f) (wire + 1)
      go zero e l = absurd (omega arith)
      go (suc k) e l =
          let m = left_cell f wire cell _
          (l ∙ ap (λ (m : List ℕ). m ++ (every_second (rows_of f) (encoded_bits f) s.row_turns (row + 2) ++ after f first)) (across_more (rows_of f) (encoded_bits f) k cell h)) in
          (m.0, m.1, record { turns = k; enough = omega (arith, (format_small f).0); row_turns = s.row_turns; rows_enough = s.rows_enough; left = m.2 })

  -- the row ends
  pub row_ended : encoded_bits f ≤ cell → Rows f first (row + 2) wire
  row_ended h =
      record {
        turns = s.row_turns;
        enough = s.rows_enough;
        left = s.left ∙ ap (λ (m : List ℕ). m ++ (every_second (rows_of f) (encoded_bits f) s.row_turns (row + 2) ++ after f first)) (across_none (rows_of f) (encoded_bits f) s.turns cell h);
      }

-- ---- the even rows, then the odd rows: before the rows from `first` on, or after all
pub record Passes (f : BlockFormat) (first wire : ℕ) : Type 0 where
  pub begins : first < 2 → Rows f first first wire
  pub ends : 2 ≤ first → encoded_bits f ≤ wire

pub even_rows : (f : BlockFormat) → Passes f 0 0
unfolding wire_order after
even_rows f = record { begins = λ h. record { turns = rows_of f; enough = omega arith; left = refl }; ends = λ h. absurd (omega arith) }

pub rows_passed : {f : BlockFormat} {first row wire : ℕ} → Rows f first row wire → rows_of f ≤ row → first < 2 → Passes f (first + 1) wire
unfolding after
rows_passed {f} {first = zero} {row = row} {wire = wire} s h b =
    record { begins = λ e. record { turns = rows_of f; enough = omega arith; left = rows_ended s h ∙ sym (append-nil _) }; ends = λ e. absurd (omega arith) }
rows_passed {f} {first = suc zero} {wire = wire} s h b = record { begins = λ e. absurd (omega arith); ends = λ e. left_none f wire (rows_ended s h) }
rows_passed {f} {first = suc (suc first)} s h b = absurd (omega arith)

-- ---- `interleave`: the wires passed hold their cells' elements
pub record Sending {A : Type 0} (f : BlockFormat) (d : A) (cells wires : List A) (wire : ℕ) : Type 0 where
  pub filling : Filling (λ w x. x ≡ get_or cells (cell_at f w) d) d (encoded_bits f) wires wire

pub sending_none : {A : Type 0} (f : BlockFormat) {d : A} {cells wires : List A} → length wires ≡ encoded_bits f → Sending f d cells wires 0
sending_none f e = record { filling = filling_none e }

module _ {A : Type 0} {f : BlockFormat} {d : A} {cells wires : List A} {wire : ℕ} (s : Sending f d cells wires wire) where
  pub sending_more : {x : A} → wire < encoded_bits f → x ≡ get_or cells (cell_at f wire) d → Sending f d cells (set wires wire x) (wire + 1)
  sending_more {x} h e = record { filling = filling_more s.filling x h e }

  pub sending_done : encoded_bits f ≤ wire → wires ≡ interleaved f d cells
  unfolding interleaved
  sending_done h = is_listed (encoded_bits f) _ d wires s.filling.size (λ w b. s.filling.right w (omega arith))

pub sending_next : {A : Type 0} {f : BlockFormat} {cells wires : List A} {wire cell : ℕ} {x : A} → ((d : A) → Sending f d cells wires wire) → wire < encoded_bits f → cell ≡ cell_at f wire
    → cell < length cells → x ≡ get_or cells cell x → (d : A) → Sending f d cells (set wires wire x) (wire + 1)
sending_next {cells = cells} {cell = cell} {x = x} s h e low read d =
    sending_more (s d) h (get_or_read cells cell x low read d ∙ ap (λ (k : ℕ). get_or cells k d) e)

-- ---- `deinterleave`: the cells of the wires passed hold the wires' elements
pub record Receiving {A : Type 0} (f : BlockFormat) (d : A) (wires cells : List A) (wire : ℕ) : Type 0 where
  pub size : length cells ≡ encoded_bits f
  pub right : (w : ℕ) → w < wire → get_or cells (cell_at f w) d ≡ get_or wires w d

pub receiving_none : {A : Type 0} (f : BlockFormat) {d : A} {wires cells : List A} → length cells ≡ encoded_bits f → Receiving f d wires cells 0
receiving_none f e = record { size = e; right = λ w h. absurd (not-suc-le-zero h) }

module _ {A : Type 0} {f : BlockFormat} {d : A} {wires cells : List A} {wire : ℕ} (s : Receiving f d wires cells wire) where
  pub receiving_more : {x : A} → wire < encoded_bits f → x ≡ get_or wires wire d → Receiving f d wires (set cells (cell_at f wire) x) (wire + 1)
  receiving_more {x} h e =
      record { size = length-set cells (cell_at f wire) x ∙ s.size; right = λ w b. go w b (ℕ_discrete w wire) }
    where
      -- the wires before have other cells
      other : (w : ℕ) → w < wire → cell_at f w ≡ cell_at f wire → ⊥
      other w b same =
          let k : w ≡ wire = sym (wire_of_cell f w (omega arith)) ∙ ap (wire_of f) same ∙ wire_of_cell f wire h in
          omega arith

      go : (w : ℕ) → w < wire + 1 → Dec (w ≡ wire) → get_or (set cells (cell_at f wire) x) (cell_at f w) d ≡ get_or wires w d
      go w b (yes here) =
          rw here (get_or-set_same cells (cell_at f wire) x d (subst (λ (m : ℕ). cell_at f wire < m) (sym s.size) (cell_below f wire h)) ∙ e)
      go w b (no n) =
          get_or-set_other cells (cell_at f wire) (cell_at f w) x d (other w (omega arith)) ∙ s.right w (omega arith)

  pub receiving_done : encoded_bits f ≤ wire → cells ≡ deinterleaved f d wires
  unfolding deinterleaved
  receiving_done h =
      is_listed (encoded_bits f) _ d cells s.size
      (λ c b. ap (λ (k : ℕ). get_or cells k d) (sym (cell_of_wire f c b)) ∙ s.right (wire_of f c) (omega (arith, wire_below f c b)))

pub receiving_next : {A : Type 0} {f : BlockFormat} {wires cells : List A} {wire cell : ℕ} {x : A} → ((d : A) → Receiving f d wires cells wire) → wire < encoded_bits f → cell ≡ cell_at f wire
    → wire < length wires → x ≡ get_or wires wire x → (d : A) → Receiving f d wires (set cells cell x) (wire + 1)
receiving_next {wires = wires} {wire = wire} {x = x} s h e low read d = rw e (receiving_more (s d) h (get_or_read wires wire x low read d))

-- ---- `copy_in_order`: the one or the other
pub record Copying {A : Type 0} (sends : Bool) (f : BlockFormat) (d : A) (from to : List A) (wire : ℕ) : Type 0 where
  pub sent : sends ≡ true → Sending f d from to wire
  pub received : sends ≡ false → Receiving f d from to wire

pub copying_none : {A : Type 0} {sends : Bool} (f : BlockFormat) {d : A} {from to : List A} → length to ≡ encoded_bits f → Copying sends f d from to 0
copying_none f e = record { sent = λ t. sending_none f e; received = λ t. receiving_none f e }

-- the wire, and both places, are inside
pub places_inside : (sends : Bool) {f : BlockFormat} {first row cell wire : ℕ} {at : ℕ × ℕ} → Cells f first row cell wire → cell < encoded_bits f → at ≡ cond sends (cell, wire) (wire, cell)
    → (at.0 < encoded_bits f) × (at.1 < encoded_bits f) × (wire < 260)
places_inside sends {f} {cell = cell} {wire = wire} {at = at} stands low which = go sends which
  where
    within : wire < encoded_bits f
    within = (cell_passed stands low).0

    go : (b : Bool) → at ≡ cond b (cell, wire) (wire, cell) → (at.0 < encoded_bits f) × (at.1 < encoded_bits f) × (wire < 260)
    go true e = rw e (low, within, omega (arith, within, (format_small f).2))
    go false e = rw e (within, low, omega (arith, within, (format_small f).2))

module _ {A : Type 0} {sends : Bool} {f : BlockFormat} {from to : List A} {wire : ℕ} where
  pub copying_done : {d : A} → Copying sends f d from to wire → encoded_bits f ≤ wire → to ≡ cond sends (interleaved f d from) (deinterleaved f d from)
  copying_done {d} s h = go sends refl
    where
      go : (b : Bool) → sends ≡ b → to ≡ cond b (interleaved f d from) (deinterleaved f d from)
      go true e = sending_done (s.sent e) h
      go false e = receiving_done (s.received e) h

  -- a wire is passed: its cell is copied, and then comes the next of its row
  pub copying_next : {first row cell : ℕ} {at : ℕ × ℕ} {x : A} → Cells f first row cell wire → ((d : A) → Copying sends f d from to wire) → length from ≡ encoded_bits f → cell < length from
      → at ≡ cond sends (cell, wire) (wire, cell) → x ≡ get_or from at.0 x → Cells f first row (cell + rows_of f) (wire + 1) × ((d : A) → Copying sends f d from (set to at.1 x) (wire + 1))
  copying_next {cell = cell} {at = at} {x = x} stands s size low which read =
      let p = cell_passed stands (omega arith) in (
        p.2,
        λ d. record {
          sent = λ t. let e : at ≡ (cell, wire) = which ∙ ap (λ (b : Bool). cond b (cell, wire) (wire, cell)) t in
              rw e (sending_next (λ d. (s d).sent t) p.0 p.1 low (rw e at read) d);
          received = λ t. let e : at ≡ (wire, cell) = which ∙ ap (λ (b : Bool). cond b (cell, wire) (wire, cell)) t in
              rw e (receiving_next (λ d. (s d).received t) p.0 p.1 (omega (arith, p.0)) (rw e at read) d);
        },
      )
