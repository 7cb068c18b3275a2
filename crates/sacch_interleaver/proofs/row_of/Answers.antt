-- `sacch_interleaver::row_of` meets its contract: the field of the ring turned round is its row. Assumes nothing.
use mathlib.Core.Path.{◌∙◌}
use native.Mathlib.Omega.{arith}
use Rattle.sacch_interleaver.proofs.Diagonal.{turned_round}
use Rattle.sacch_interleaver.proofs.row_of.Goals as goal

pub returns : goal.returns
returns c = c.field_of.ensures ∙ turned_round c.args.fields.now c.reverse.new.self c.args.next (omega arith) c.requires (λ k h. c.reverse.ensures.by_index k 0 (omega arith))
