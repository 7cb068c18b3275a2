-- `speech::classes::take_protected` meets its contract: the ranges between those of class two. Assumes nothing.
use mathlib.Core.Path.{◌∙◌}
use Rattle.speech.specs.Ranges.{total_of}
use Rattle.speech.proofs.ClassPlaces.{inside, in_frame, protected_ranges, between}
use Rattle.speech.proofs.classes.take_protected.Goals as goal

pub take_ranges-requires : goal.take_ranges-requires
unfolding total_of inside
take_ranges-requires c = (in_frame between tt c.requires, c.told-protected)

pub returns : goal.returns
returns c = c.take_ranges.ensures ∙ protected_ranges c.args.frame.now c.requires
