-- `acelp_interleaver::carry` meets its contract: all rows are written. Assumes nothing.
use Rattle.std.proofs.Common.{List, ℕ, ◌/◌, get_or, ap, arith}
use Rattle.interleaving.specs.Slots.{carried}
use Rattle.interleaving.proofs.Parts.{turns_more, turns_done}
use Rattle.acelp_interleaver.specs.Wire.{interleaved, place_at}
use Rattle.acelp_interleaver.proofs.Modes.{few, turn_below}
use Rattle.acelp_interleaver.proofs.Thirds.{newest}
use Rattle.acelp_interleaver.proofs.carry.Goals as goal

pub loop-first-preserved : goal.loop-first-preserved
loop-first-preserved c =
    let n = newest c.args.history.now c.as_chunks.ensures.front c.requires.0 (few c.args.mode c.slots-slots.ensures) in
    turns_more c.loop-first.invariant c.copy_rows.ensures
    (λ p b at. rw at (ap (λ (l : List ℕ). get_or l (place_at p) 0) (n.1 c.loop-first.first (omega (arith, c.loop-first-test.true, n.0)))))

pub returns : goal.returns
unfolding interleaved carried
returns c =
    let n = newest c.args.history.now c.as_chunks.ensures.front c.requires.0 (few c.args.mode c.slots-slots.ensures) in
    turns_done (rw c.slots-slots.ensures at c.loop-first.invariant) (λ w b. omega (arith, n.0, c.slots-slots.ensures, c.loop-first-test.false, turn_below c.args.mode (w / 10)))
