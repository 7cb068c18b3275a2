-- `facch_interleaver::observe_half` meets its contract: bytes 2, and then the rows of the half. Assumes nothing.
use Rattle.std.proofs.Common.{◌≡◌, ℕ, replicate, length, ap, ◌∙◌, rules}
use Rattle.bits.proofs.Refusing.{passed_room}
use Rattle.bits.proofs.Writing.{done_end}
use Rattle.facch_interleaver.proofs.Observing.{one_half}
use Rattle.facch_interleaver.proofs.observe_half.Goals as goal

pub returns : goal.returns
returns c =
    let size : length c.args.coded.now ≡ 260 = (passed_room 260 c.args.slot.now 260 _ c.bits_and_room.ensures c.in_ok-bits_and_room.was).1 in
    let twos = c.fill.ensures.after (search rules) ∙ ap (λ n. replicate {A = ℕ} n 2) size in
    done_end c.bits_and_room.ensures c.in_ok-bits_and_room.was (one_half c.args.half c.args.slot.now c.parity.ensures.0 twos c.copy_rows.ensures)
