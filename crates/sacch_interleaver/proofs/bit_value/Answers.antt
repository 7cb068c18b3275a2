-- `sacch_interleaver::bit_value` meets its contract: a test of the places and turns. Assumes nothing.
use mathlib.Core.Bool.{Bool}
use Prim.Native.Nat.{ℕ, ◌+◌, ◌-◌, ◌*◌, ◌/◌, ◌%◌, ◌^◌}
use lib.Bits.{bit_or}
use lib.Dec.{eqb, eqb→eq}
use Rattle.bits.proofs.Tested.{every, below}
use native.Mathlib.Omega.{arith}
use Rattle.sacch_interleaver.proofs.bit_value.Goals as goal

-- the value that is returned
abbrev made : ℕ → ℕ → ℕ
made place shift = bit_or (1 * 2 ^ place % 65536 * 2 ^ shift % 65536 % 4096) (1 * 2 ^ place % 65536 / 2 ^ (12 - shift))

abbrev right : ℕ → ℕ → Bool
right place shift = eqb (made place shift) (2 ^ ((place + shift) % 12))

pub returns : goal.returns
returns c =
    let a = c.args in
    eqb→eq (made a.place a.shift) (2 ^ ((a.place + a.shift) % 12))
    (below (right a.place) 13 (below (λ p. every (right p) 13) 12 tt a.place (omega arith)) a.shift (omega arith))
