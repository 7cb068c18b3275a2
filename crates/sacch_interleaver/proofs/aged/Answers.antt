-- `sacch_interleaver::aged` meets its contract: the ring's two parts stand in order. Assumes nothing.
use mathlib.Core.Path.{◌∙◌}
use Rattle.sacch_interleaver.proofs.LaidOut.{laid}
use Rattle.sacch_interleaver.proofs.aged.Goals as goal

pub returns : goal.returns
returns c =
    laid _ _ c.requires.0 c.requires.1 (c.copy_from_slice.ensures.after ∙ c.split_at.ensures.back) (c.copy_from_slice-2.ensures.after ∙ c.split_at.ensures.front)
