-- `speech::decoding::decode_candidate` meets its contract: two nearest words, or one. Assumes nothing.
use mathlib.Core.Path.{sym, ◌∙◌}
use Rattle.speech.proofs.Settling.{unclear_end, settled_end}
use Rattle.speech.proofs.decoding.decode_candidate.Goals as goal

pub returns-then-found : goal.returns-then-found
returns-then-found c =
    unclear_end c.args.frame.now c.args.class_one.now c.args.class_two.now (sym c.decode_arguments.ensures ∙ c.in_ok-decode_arguments.was)
    c.nearest_inputs-found.ensures c.if-found.true

pub returns : goal.returns
returns c =
    settled_end c.args.frame.now c.args.class_one.now c.args.class_two.now (sym c.decode_arguments.ensures ∙ c.in_ok-decode_arguments.was)
    c.nearest_inputs-found.ensures c.if-found.false c.copy_from_slice.ensures.after c.take_class_two.ensures c.crc_status.ensures
