-- `session::replies::reply_to_word` meets its contract: the decoder refuses none of the bits of a line. Assumes nothing.
use mathlib.Core.Path.{ap, ◌∙◌}
use Rattle.session.specs.Replies.{facch_reply}
use Rattle.session.proofs.Replying.{facch_answered}
use Rattle.session.proofs.replies.reply_to_word.Goals as goal

pub returns : goal.returns
returns c =
    c.facch_reply.ensures
    ∙ ap facch_reply (facch_answered _ _ c.requires c.observed_bits-bits.ensures c.decode_erased.ensures)
