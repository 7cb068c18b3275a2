-- The rows of a slot by their mode. Assumes nothing.
use Rattle.std.proofs.Common.{◌≡◌, ℕ, ◌%◌, ◌<◌, ◌≤◌, arith}
use Rattle.acelp_interleaver.specs.declared.Interleaving.{Interleaving}
use Rattle.acelp_interleaver.specs.declared.Interleaving.TheVariants.{One, Two, Three}
use Rattle.acelp_interleaver.specs.Wire.{slots_of}

pub turn_below : (mode : Interleaving) (row : ℕ) → row % slots_of mode < slots_of mode
turn_below One row = omega arith
turn_below Two row = omega arith
turn_below Three row = omega arith

pub few : (mode : Interleaving) {spread : ℕ} → spread ≡ slots_of mode → spread ≤ 3
few One e = omega arith
few Two e = omega arith
few Three e = omega arith
