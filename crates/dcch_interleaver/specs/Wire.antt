-- The interleaver (IS-136.1-A 4.4.3.2): coded bits fill the cells by columns and are sent by rows, the even rows first. Absent cells are left out.
use Rattle.std.specs.Prelude.{cond, List, [], ◌∷◌, ◌++◌, ℕ, zero, suc, ◌+◌, ltb, get_or}
use Rattle.bits.specs.Places.{listed, place_in}
use Rattle.dcch_interleaver.specs.declared.BlockFormat.{BlockFormat}
use Rattle.dcch_interleaver.specs.Formats.{encoded_bits, rows_of}

-- the cells of one row, from `cell` on, at most k of them: the next column is `rows` cells on
unfoldable pub across : ℕ → ℕ → ℕ → ℕ → List ℕ
across rows cells zero cell = []
across rows cells (suc k) cell = cond (ltb cell cells) (cell ∷ across rows cells k (cell + rows)) []

-- every second row from `row` on, at most k of them
unfoldable pub every_second : ℕ → ℕ → ℕ → ℕ → List ℕ
every_second rows cells zero row = []
every_second rows cells (suc k) row = cond (ltb row rows) (across rows cells cells row ++ every_second rows cells k (row + 2)) []

-- the cells in the order in which they are sent
unfoldable pub wire_order : BlockFormat → List ℕ
wire_order f = every_second (rows_of f) (encoded_bits f) (rows_of f) 0 ++ every_second (rows_of f) (encoded_bits f) (rows_of f) 1

-- the cell that is sent at a place, and the place at which a cell is sent
unfoldable pub cell_at : BlockFormat → ℕ → ℕ
cell_at f wire = get_or (wire_order f) wire 0

unfoldable pub wire_of : BlockFormat → ℕ → ℕ
wire_of f cell = place_in (wire_order f) cell

-- what is sent of the cells, and the cells of what was received; d stands for an element that a list lacks
unfoldable pub interleaved : {A : Type 0} → BlockFormat → A → List A → List A
interleaved f d cells = listed (encoded_bits f) (λ (wire : ℕ). get_or cells (cell_at f wire) d)

unfoldable pub deinterleaved : {A : Type 0} → BlockFormat → A → List A → List A
deinterleaved f d wires = listed (encoded_bits f) (λ (cell : ℕ). get_or wires (wire_of f cell) d)
