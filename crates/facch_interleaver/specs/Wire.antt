-- The slot order (IS-54-B 2.7.3.1.1.2): a slot carries 26 rows of ten bits; its even rows finish the previous word, its odd rows start the current one.
use Rattle.std.specs.Prelude.{List, [], ◌∷◌, ℕ, length, get_or, replicate}
use Rattle.bits.specs.Places.{listed, place_in}
use Rattle.bits.specs.Arguments.{Arguments, bits_and_room}
use Rattle.facch_interleaver.specs.declared.WordHalf.{WordHalf}
use Rattle.facch_interleaver.specs.declared.WordHalf.TheVariants.{Start, End}
use Rattle.bits.specs.Calls.{WriteCall}
use Rattle.interleaving.specs.Orders.{at_wire}
use Rattle.interleaving.specs.Slots.{carried, collected, by_row}
use Rattle.interleaving.specs.Calls.{two_arguments}

-- IS-54-B Table 2.7.3.1.1.2-1, as the original's rule gives it, row by row: the place in the word of the coded bit that each column carries
unfoldable pub table : List (List ℕ)
table =
    (215 ∷ 256 ∷ 223 ∷ 258 ∷ 230 ∷ 219 ∷ 257 ∷ 227 ∷ 259 ∷ 189 ∷ []) ∷
    (0 ∷ 25 ∷ 50 ∷ 75 ∷ 231 ∷ 89 ∷ 114 ∷ 139 ∷ 164 ∷ 190 ∷ []) ∷
    (1 ∷ 26 ∷ 51 ∷ 76 ∷ 232 ∷ 90 ∷ 115 ∷ 140 ∷ 165 ∷ 191 ∷ []) ∷
    (2 ∷ 27 ∷ 52 ∷ 77 ∷ 233 ∷ 91 ∷ 116 ∷ 141 ∷ 166 ∷ 192 ∷ []) ∷
    (3 ∷ 28 ∷ 53 ∷ 78 ∷ 234 ∷ 92 ∷ 117 ∷ 142 ∷ 167 ∷ 193 ∷ []) ∷
    (4 ∷ 29 ∷ 54 ∷ 79 ∷ 235 ∷ 93 ∷ 118 ∷ 143 ∷ 168 ∷ 194 ∷ []) ∷
    (5 ∷ 30 ∷ 55 ∷ 80 ∷ 236 ∷ 94 ∷ 119 ∷ 144 ∷ 169 ∷ 195 ∷ []) ∷
    (6 ∷ 31 ∷ 56 ∷ 81 ∷ 237 ∷ 95 ∷ 120 ∷ 145 ∷ 170 ∷ 196 ∷ []) ∷
    (7 ∷ 32 ∷ 57 ∷ 82 ∷ 238 ∷ 96 ∷ 121 ∷ 146 ∷ 171 ∷ 197 ∷ []) ∷
    (8 ∷ 33 ∷ 58 ∷ 83 ∷ 239 ∷ 97 ∷ 122 ∷ 147 ∷ 172 ∷ 198 ∷ []) ∷
    (9 ∷ 34 ∷ 59 ∷ 84 ∷ 240 ∷ 98 ∷ 123 ∷ 148 ∷ 173 ∷ 199 ∷ []) ∷
    (10 ∷ 35 ∷ 60 ∷ 85 ∷ 241 ∷ 99 ∷ 124 ∷ 149 ∷ 174 ∷ 200 ∷ []) ∷
    (11 ∷ 36 ∷ 61 ∷ 86 ∷ 242 ∷ 100 ∷ 125 ∷ 150 ∷ 175 ∷ 201 ∷ []) ∷
    (12 ∷ 37 ∷ 62 ∷ 87 ∷ 243 ∷ 101 ∷ 126 ∷ 151 ∷ 176 ∷ 202 ∷ []) ∷
    (13 ∷ 38 ∷ 63 ∷ 88 ∷ 244 ∷ 102 ∷ 127 ∷ 152 ∷ 177 ∷ 203 ∷ []) ∷
    (14 ∷ 39 ∷ 64 ∷ 216 ∷ 245 ∷ 103 ∷ 128 ∷ 153 ∷ 178 ∷ 204 ∷ []) ∷
    (15 ∷ 40 ∷ 65 ∷ 217 ∷ 246 ∷ 104 ∷ 129 ∷ 154 ∷ 179 ∷ 205 ∷ []) ∷
    (16 ∷ 41 ∷ 66 ∷ 218 ∷ 247 ∷ 105 ∷ 130 ∷ 155 ∷ 180 ∷ 206 ∷ []) ∷
    (17 ∷ 42 ∷ 67 ∷ 220 ∷ 248 ∷ 106 ∷ 131 ∷ 156 ∷ 181 ∷ 207 ∷ []) ∷
    (18 ∷ 43 ∷ 68 ∷ 221 ∷ 249 ∷ 107 ∷ 132 ∷ 157 ∷ 182 ∷ 208 ∷ []) ∷
    (19 ∷ 44 ∷ 69 ∷ 222 ∷ 250 ∷ 108 ∷ 133 ∷ 158 ∷ 183 ∷ 209 ∷ []) ∷
    (20 ∷ 45 ∷ 70 ∷ 224 ∷ 251 ∷ 109 ∷ 134 ∷ 159 ∷ 184 ∷ 210 ∷ []) ∷
    (21 ∷ 46 ∷ 71 ∷ 225 ∷ 252 ∷ 110 ∷ 135 ∷ 160 ∷ 185 ∷ 211 ∷ []) ∷
    (22 ∷ 47 ∷ 72 ∷ 226 ∷ 253 ∷ 111 ∷ 136 ∷ 161 ∷ 186 ∷ 212 ∷ []) ∷
    (23 ∷ 48 ∷ 73 ∷ 228 ∷ 254 ∷ 112 ∷ 137 ∷ 162 ∷ 187 ∷ 213 ∷ []) ∷
    (24 ∷ 49 ∷ 74 ∷ 229 ∷ 255 ∷ 113 ∷ 138 ∷ 163 ∷ 188 ∷ 214 ∷ []) ∷ []

-- the place of a row and column
unfoldable pub place_of : ℕ → ℕ → ℕ
place_of row column = get_or (get_or table row []) column 0

-- the bits of a slot are its rows one after the other
abbrev pub place_at : ℕ → ℕ
place_at wire = at_wire place_of wire

-- the bit of a slot that carries a place
unfoldable pub wire_of : ℕ → ℕ
wire_of place = place_in (listed 260 place_at) place

-- the slot between two words; d stands for an element that a list lacks
unfoldable pub interleaved : {A : Type 0} → A → List A → List A → List A
interleaved d previous current = carried d place_at (by_row previous current)

-- the word that starts in one slot and is finished in the next
unfoldable pub deinterleaved : {A : Type 0} → A → List A → List A → List A
deinterleaved d first second = collected d wire_of (by_row second first)

-- the half of a word that one slot carries; 2 stands at the places of the other half
abbrev pub observed : WordHalf → List ℕ → List ℕ
observed Start slot = deinterleaved 0 slot (replicate 260 2)
observed End slot = deinterleaved 0 (replicate 260 2) slot

-- a half's rows, modulo 2
abbrev pub parity_of : WordHalf → ℕ
parity_of Start = 1
parity_of End = 0

-- ---- the calls
-- a slice and room for the other
abbrev pub one_arguments : List ℕ → ℕ → Arguments
one_arguments a room = bits_and_room 260 a 260 room

abbrev pub Interleaving : List ℕ → List ℕ → List ℕ → List ℕ → Arguments → Type 0
Interleaving previous current slot₀ slot r = WriteCall (two_arguments previous current (length slot₀)) (interleaved 0 previous current) slot₀ slot r

abbrev pub Deinterleaving : List ℕ → List ℕ → List ℕ → List ℕ → Arguments → Type 0
Deinterleaving first second coded₀ coded r = WriteCall (two_arguments first second (length coded₀)) (deinterleaved 0 first second) coded₀ coded r

abbrev pub Observing : List ℕ → WordHalf → List ℕ → List ℕ → Arguments → Type 0
Observing slot half coded₀ coded r = WriteCall (one_arguments slot (length coded₀)) (observed half slot) coded₀ coded r
