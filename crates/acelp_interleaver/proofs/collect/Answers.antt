-- `acelp_interleaver::collect` meets its contract: the places of all rows are written. Assumes nothing.
use Rattle.std.proofs.Common.{List, ℕ, ◌/◌, ◌<◌, get_or, ap, mod-lt, arith}
use Rattle.interleaving.specs.Slots.{collected}
use Rattle.interleaving.proofs.Parts.{part_same, turns_more, turns_done}
use Rattle.acelp_interleaver.specs.Wire.{deinterleaved, wire_of}
use Rattle.acelp_interleaver.proofs.Modes.{few, turn_below}
use Rattle.acelp_interleaver.proofs.Thirds.{oldest}
use Rattle.acelp_interleaver.proofs.collect.Goals as goal

pub loop-age-preserved : goal.loop-age-preserved
loop-age-preserved c =
    let n = oldest c.args.slots.now c.as_chunks.ensures.front c.requires.0 (few c.args.mode c.slots-spread.ensures) in
    let within : c.loop-age.age < c.slots-spread.result = omega (arith, c.loop-age-test.true, n.0) in
    let some : 0 < c.slots-spread.result = omega (arith, within) in
    turns_more c.loop-age.invariant
    (part_same c.copy_rows.ensures (λ p b o. omega (arith, mod-lt (wire_of p / 10) some)) (λ p b o. omega (arith, within)))
    (λ p b at. rw at (ap (λ (l : List ℕ). get_or l (wire_of p) 0) (n.1 c.loop-age.age within)))

pub returns : goal.returns
unfolding deinterleaved collected
returns c =
    let n = oldest c.args.slots.now c.as_chunks.ensures.front c.requires.0 (few c.args.mode c.slots-spread.ensures) in
    turns_done (rw c.slots-spread.ensures at c.loop-age.invariant) (λ p b. omega (arith, n.0, c.slots-spread.ensures, c.loop-age-test.false, turn_below c.args.mode (wire_of p / 10)))
