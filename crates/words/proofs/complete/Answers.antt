-- `words::complete` meets its contract: the message, and the checksum of header and message. Assumes nothing.
use mathlib.Core.Path.{◌∙◌}
use Rattle.words.proofs.Writing.{front_length, completed}
use Rattle.words.proofs.complete.Goals as goal

pub slice_bounds-checksum_under-end-2 : goal.slice_bounds-checksum_under-end-2
slice_bounds-checksum_under-end-2 c =
    front_length c.args.word.now c.args.header c.args.message c.requires.0 c.requires.1 _ c.unpack.ensures

pub returns : goal.returns
returns c =
    completed c.args.word.now c.args.header c.args.message c.requires.0 c.requires.1 _ c.unpack.ensures _ (c.from.ensures ∙ c.checksum_under-checksum.ensures) c.unpack-2.ensures
