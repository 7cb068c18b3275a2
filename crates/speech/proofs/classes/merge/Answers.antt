-- `speech::classes::merge` meets its contract: the ranges of class two, and those between them. Assumes nothing.
use mathlib.Core.Path.{ap, ◌∙◌}
use Rattle.speech.specs.Ranges.{total_of, put_ranges}
use Rattle.speech.proofs.ClassPlaces.{inside, in_frame, turns, between, merged}
use Rattle.speech.proofs.classes.merge.Goals as goal

pub put_ranges-requires : goal.put_ranges-requires
unfolding total_of inside
put_ranges-requires c = (in_frame turns tt c.requires.1, c.requires.0)

pub put_ranges-requires-2 : goal.put_ranges-requires-2
unfolding total_of inside
put_ranges-requires-2 c = (in_frame between tt (c.put_ranges.auto.list ∙ c.requires.1), c.told-protected)

pub returns : goal.returns
returns c =
    c.put_ranges-2.ensures
    ∙ ap (put_ranges between c.args.protected.now) c.put_ranges.ensures
    ∙ merged c.args.protected.now c.args.class_two.now c.args.frame.now c.told-protected c.requires.0 c.requires.1
