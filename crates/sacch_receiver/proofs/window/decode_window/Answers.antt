-- `sacch_receiver::window::decode_window` meets its contract: the bits are 132, so nothing is refused before the search. Assumes nothing.
use Rattle.sacch_receiver.proofs.Decoded.{window_decoded}
use Rattle.sacch_receiver.proofs.window.decode_window.Goals as goal

pub returns : goal.returns
returns c =
    let a = c.args in
    window_decoded a.rows.now a.next a.dvcc c.window_bits.ensures c.decode.ensures
