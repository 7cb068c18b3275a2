-- `speech::classes::take_class_two` meets its contract: the ranges of the table are those of class two. Assumes nothing.
use mathlib.Core.Path.{◌∙◌}
use Rattle.speech.specs.Ranges.{total_of}
use Rattle.speech.proofs.ClassPlaces.{inside, in_frame, class_two_ranges, turns}
use Rattle.speech.proofs.classes.take_class_two.Goals as goal

pub take_ranges-requires : goal.take_ranges-requires
unfolding total_of inside
take_ranges-requires c = (in_frame turns tt c.requires.0, c.requires.1)

pub returns : goal.returns
returns c = c.take_ranges.ensures ∙ class_two_ranges c.args.frame.now c.requires.0
