-- The slot order (TIA/EIA-136-410 Table 4.3): a slot carries 26 rows of ten bits, of one frame or of two or three successive ones. Frames and slots oldest first.
use Rattle.std.specs.Prelude.{List, [], ◌∷◌, ℕ, ◌-◌, ◌*◌, ◌%◌, length, get_or, take, drop}
use Rattle.bits.specs.Places.{listed, place_in}
use Rattle.bits.specs.Arguments.{Arguments, bits_and_room}
use Rattle.bits.specs.Calls.{WriteCall}
use Rattle.interleaving.specs.Orders.{at_wire}
use Rattle.interleaving.specs.Slots.{carried, collected}
use Rattle.acelp_interleaver.specs.declared.Interleaving.{Interleaving}
use Rattle.acelp_interleaver.specs.declared.Interleaving.TheVariants.{One, Two, Three}

-- Table 4.3, as the original has it, row by row: the place in the frame of the bit that each column carries
unfoldable pub table : List (List ℕ)
table =
    (220 ∷ 219 ∷ 218 ∷ 233 ∷ 232 ∷ 231 ∷ 211 ∷ 210 ∷ 209 ∷ 208 ∷ []) ∷
    (0 ∷ 25 ∷ 50 ∷ 75 ∷ 100 ∷ 125 ∷ 150 ∷ 175 ∷ 200 ∷ 237 ∷ []) ∷
    (1 ∷ 26 ∷ 51 ∷ 76 ∷ 101 ∷ 126 ∷ 151 ∷ 176 ∷ 201 ∷ 224 ∷ []) ∷
    (2 ∷ 27 ∷ 52 ∷ 77 ∷ 102 ∷ 127 ∷ 152 ∷ 177 ∷ 202 ∷ 236 ∷ []) ∷
    (3 ∷ 28 ∷ 53 ∷ 78 ∷ 103 ∷ 128 ∷ 153 ∷ 178 ∷ 203 ∷ 223 ∷ []) ∷
    (4 ∷ 29 ∷ 54 ∷ 79 ∷ 104 ∷ 129 ∷ 154 ∷ 179 ∷ 204 ∷ 235 ∷ []) ∷
    (5 ∷ 30 ∷ 55 ∷ 80 ∷ 105 ∷ 130 ∷ 155 ∷ 180 ∷ 205 ∷ 222 ∷ []) ∷
    (6 ∷ 31 ∷ 56 ∷ 81 ∷ 106 ∷ 131 ∷ 156 ∷ 181 ∷ 206 ∷ 234 ∷ []) ∷
    (7 ∷ 32 ∷ 57 ∷ 82 ∷ 107 ∷ 132 ∷ 157 ∷ 182 ∷ 207 ∷ 221 ∷ []) ∷
    (8 ∷ 33 ∷ 58 ∷ 83 ∷ 108 ∷ 133 ∷ 158 ∷ 183 ∷ 250 ∷ 249 ∷ []) ∷
    (9 ∷ 34 ∷ 59 ∷ 84 ∷ 109 ∷ 134 ∷ 159 ∷ 184 ∷ 217 ∷ 216 ∷ []) ∷
    (10 ∷ 35 ∷ 60 ∷ 85 ∷ 110 ∷ 135 ∷ 160 ∷ 185 ∷ 248 ∷ 247 ∷ []) ∷
    (11 ∷ 36 ∷ 61 ∷ 86 ∷ 111 ∷ 136 ∷ 161 ∷ 186 ∷ 215 ∷ 230 ∷ []) ∷
    (12 ∷ 37 ∷ 62 ∷ 87 ∷ 112 ∷ 137 ∷ 162 ∷ 187 ∷ 246 ∷ 245 ∷ []) ∷
    (13 ∷ 38 ∷ 63 ∷ 88 ∷ 113 ∷ 138 ∷ 163 ∷ 188 ∷ 229 ∷ 228 ∷ []) ∷
    (14 ∷ 39 ∷ 64 ∷ 89 ∷ 114 ∷ 139 ∷ 164 ∷ 189 ∷ 244 ∷ 259 ∷ []) ∷
    (15 ∷ 40 ∷ 65 ∷ 90 ∷ 115 ∷ 140 ∷ 165 ∷ 190 ∷ 214 ∷ 213 ∷ []) ∷
    (16 ∷ 41 ∷ 66 ∷ 91 ∷ 116 ∷ 141 ∷ 166 ∷ 191 ∷ 258 ∷ 257 ∷ []) ∷
    (17 ∷ 42 ∷ 67 ∷ 92 ∷ 117 ∷ 142 ∷ 167 ∷ 192 ∷ 212 ∷ 227 ∷ []) ∷
    (18 ∷ 43 ∷ 68 ∷ 93 ∷ 118 ∷ 143 ∷ 168 ∷ 193 ∷ 243 ∷ 242 ∷ []) ∷
    (19 ∷ 44 ∷ 69 ∷ 94 ∷ 119 ∷ 144 ∷ 169 ∷ 194 ∷ 226 ∷ 225 ∷ []) ∷
    (20 ∷ 45 ∷ 70 ∷ 95 ∷ 120 ∷ 145 ∷ 170 ∷ 195 ∷ 241 ∷ 256 ∷ []) ∷
    (21 ∷ 46 ∷ 71 ∷ 96 ∷ 121 ∷ 146 ∷ 171 ∷ 196 ∷ 240 ∷ 239 ∷ []) ∷
    (22 ∷ 47 ∷ 72 ∷ 97 ∷ 122 ∷ 147 ∷ 172 ∷ 197 ∷ 255 ∷ 254 ∷ []) ∷
    (23 ∷ 48 ∷ 73 ∷ 98 ∷ 123 ∷ 148 ∷ 173 ∷ 198 ∷ 238 ∷ 253 ∷ []) ∷
    (24 ∷ 49 ∷ 74 ∷ 99 ∷ 124 ∷ 149 ∷ 174 ∷ 199 ∷ 252 ∷ 251 ∷ []) ∷ []

-- the place of a row and column
abbrev pub place_of : ℕ → ℕ → ℕ
place_of row column = get_or (get_or table row []) column 0

-- the place that a bit of a slot carries
abbrev pub place_at : ℕ → ℕ
place_at wire = at_wire place_of wire

-- the bit of a slot that carries a place
unfoldable pub wire_of : ℕ → ℕ
wire_of place = place_in (listed 260 place_at) place

-- over how many slots a frame is spread
abbrev pub slots_of : Interleaving → ℕ
slots_of One = 1
slots_of Two = 2
slots_of Three = 3

-- 4.4.1: how old the frame of a row is; the newest has the age 0
abbrev pub age_of : Interleaving → ℕ → ℕ
age_of mode row = slots_of mode - 1 - row % slots_of mode

-- one of three frames or slots, the oldest first
abbrev pub third : {A : Type 0} → List A → ℕ → List A
third l k = take 260 (drop (260 * k) l)

-- The slot of a history of three frames. Where one slot carries a frame, it is the newest.
unfoldable pub interleaved : {A : Type 0} → A → List A → Interleaving → List A
interleaved d history mode = carried d place_at (λ (row : ℕ). third history (2 - age_of mode row))

-- The frame whose first rows the oldest of three slots carries. Where one slot carries a frame, it is the oldest.
unfoldable pub deinterleaved : {A : Type 0} → A → List A → Interleaving → List A
deinterleaved d slots mode = collected d wire_of (λ (row : ℕ). third slots (age_of mode row))

-- ---- the calls: a slice of three and room for one, each length, then the symbols, also those that the mode does not read
abbrev pub three_arguments : List ℕ → ℕ → Arguments
three_arguments l room = bits_and_room 780 l 260 room

abbrev pub InterleavingCall : List ℕ → Interleaving → List ℕ → List ℕ → Arguments → Type 0
InterleavingCall history mode slot₀ slot r = WriteCall (three_arguments history (length slot₀)) (interleaved 0 history mode) slot₀ slot r

abbrev pub DeinterleavingCall : List ℕ → Interleaving → List ℕ → List ℕ → Arguments → Type 0
DeinterleavingCall slots mode frame₀ frame r = WriteCall (three_arguments slots (length frame₀)) (deinterleaved 0 slots mode) frame₀ frame r
