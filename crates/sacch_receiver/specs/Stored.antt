-- What a receiver has stored: its lock, and eleven rows as the bits of a word.
use Rattle.std.specs.Prelude.{Bool, true, List, [], ◌∷◌, ◌++◌, ℕ, ◌+◌, ◌%◌, ltb, eqb, get_or, Option, None, Some, Result}
use Rattle.bits.specs.Numbers.{unpacked}
use Rattle.bits.specs.Places.{listed}
use Rattle.bits.specs.declared.Refusal.{Refusal}
use Rattle.sacch_decoder.specs.Decoding.{decode_of}
use Rattle.sacch_decoder.specs.declared.SacchWord.{SacchWord}

-- a lock is the phase that it holds, if any
abbrev pub lock_fits : Option ℕ → Bool
lock_fits None = true
lock_fits (Some phase) = ltb phase 11

-- unlocked, each phase is tried; locked, that one
abbrev pub tries : Option ℕ → ℕ → Bool
tries None phase = true
tries (Some at) phase = eqb at phase

-- the bits of rows one after the other
unfoldable pub row_bits : List ℕ → List Bool
row_bits [] = []
row_bits (row ∷ rows) = unpacked 12 row ++ row_bits rows

-- the eleven stored rows, oldest first
unfoldable pub window_of : List ℕ → ℕ → List ℕ
window_of rows next = listed 11 (λ (i : ℕ). get_or rows ((next + i) % 11) 0)

-- what eleven rows decode to
unfoldable pub decode_rows : List ℕ → ℕ → Result SacchWord Refusal
decode_rows rows dvcc = decode_of (row_bits rows) dvcc
