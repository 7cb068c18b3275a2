-- `acelp_cc1::places::information_positions` meets its contract: each place is right. Assumes nothing.
use Rattle.bits.proofs.Listed.{is_listed}
use Rattle.acelp_cc1.specs.Frames.{information_place, information_places}
use Rattle.std.proofs.Common.{rules}
use Rattle.acelp_cc1.proofs.places.information_positions.Goals as goal

pub returns : goal.returns
unfolding information_places
returns c =
    let items = c.from_fn.ensures.items in
    is_listed 96 information_place 0 c.from_fn.result items.long (λ i h. let call = items.at i 0 h in search rules)
