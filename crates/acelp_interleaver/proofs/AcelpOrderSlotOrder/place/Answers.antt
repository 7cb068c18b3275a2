-- `place` of ACELP's slot order meets its contract: the table is the standard's, cell by cell. Assumes nothing.
use Rattle.acelp_interleaver.specs.Wire.{table}
use Rattle.acelp_interleaver.proofs.AcelpOrderSlotOrder.place.Goals as goal

pub returns : goal.returns
unfolding table
returns c = c.from.ensures
