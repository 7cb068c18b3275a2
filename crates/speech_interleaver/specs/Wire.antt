-- IS-54-B Figure 2.1.3.3.4-1: a frame is written by columns of 26 and sent by rows of ten. Even rows finish the previous frame, odd rows start the current one.
use Rattle.std.specs.Prelude.{List, ℕ, ◌+◌, ◌*◌, ◌/◌, ◌%◌, length}
use Rattle.bits.specs.Arguments.{Arguments}
use Rattle.bits.specs.Calls.{WriteCall}
use Rattle.interleaving.specs.Orders.{at_wire}
use Rattle.interleaving.specs.Slots.{carried, collected, by_row}
use Rattle.interleaving.specs.Calls.{two_arguments}

-- the place of a row and column
abbrev pub place_of : ℕ → ℕ → ℕ
place_of row column = column * 26 + row

-- the place that a slot's bit carries, and the bit that carries a place
abbrev pub place_at : ℕ → ℕ
place_at wire = at_wire place_of wire

abbrev pub wire_of : ℕ → ℕ
wire_of place = place % 26 * 10 + place / 26

-- the slot between two frames
unfoldable pub interleaved : {A : Type 0} → A → List A → List A → List A
interleaved d previous current = carried d place_at (by_row previous current)

-- the frame that starts in one slot and is finished in the next
unfoldable pub deinterleaved : {A : Type 0} → A → List A → List A → List A
deinterleaved d first second = collected d wire_of (by_row second first)

-- ---- the calls
abbrev pub Interleaving : List ℕ → List ℕ → List ℕ → List ℕ → Arguments → Type 0
Interleaving previous current slot₀ slot r = WriteCall (two_arguments previous current (length slot₀)) (interleaved 0 previous current) slot₀ slot r

abbrev pub Deinterleaving : List ℕ → List ℕ → List ℕ → List ℕ → Arguments → Type 0
Deinterleaving first second frame₀ frame r = WriteCall (two_arguments first second (length frame₀)) (deinterleaved 0 first second) frame₀ frame r
