-- `coding::acelp::line_outputs` meets its contract: each turn is one step of the code, from the state that the line shows. Assumes nothing.
use mathlib.Core.Path.{◌≡◌}
use lib.ListN.{length}
use Rattle.coding.proofs.Lines.{Sending}
use Rattle.coding.proofs.acelp.line_outputs.Given as goal

abbrev pub invariant-loop-i : goal.invariant-loop-i
invariant-loop-i l = (l.i-end ≡ length l.initial.first) × Sending l.line (length l.initial.first) l.first l.second l.i
