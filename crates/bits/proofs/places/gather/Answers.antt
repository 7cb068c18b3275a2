-- `bits::places::gather` meets its contract: the bytes passed are taken. Assumes nothing.
use native.Mathlib.Omega.{arith}
use Rattle.bits.proofs.PlacesMoved.{gathering_done}
use Rattle.bits.proofs.places.gather.Goals as goal

pub returns : goal.returns
returns c = gathering_done _ _ c.loop-i.invariant (omega arith)
