-- `acelp_cc1::encoding::send` meets its contract: what the generators send of the inputs after five zeros, by turns. Assumes nothing.
use Rattle.acelp_cc1.proofs.Sending.{line_asked, outputs-coded}
use Rattle.acelp_cc1.proofs.encoding.send.Goals as goal

pub line_outputs-requires : goal.line_outputs-requires
line_outputs-requires c = line_asked c.args.inputs.now c.copy_from_slice.ensures.after c.told-inputs c.requires.0

pub returns : goal.returns
returns c =
    c.send_runs.ensures _ (outputs-coded c.args.inputs.now c.copy_from_slice.ensures.after c.line_outputs.ensures.first_after c.line_outputs.ensures.second_after)
