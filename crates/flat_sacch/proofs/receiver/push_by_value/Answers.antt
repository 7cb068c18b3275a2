-- `flat_sacch::receiver::push_by_value` meets its contract: the call's answer and the receiver after it, made flat. Assumes nothing.
use Rattle.sacch_receiver.specs.Receiver.{push_of}
use Rattle.sacch_receiver.specs.declared.SacchReceiver.{SacchReceiver}
use Rattle.flat_sacch.specs.Flat.{flat_answer, flat_moved}
use Rattle.flat_sacch.proofs.Flattened.{flat_call}
use Rattle.flat_sacch.proofs.receiver.push_by_value.Goals as goal

pub returns : goal.returns
unfolding flat_moved
returns c =
    flat_call flat_answer (λ (r : SacchReceiver). push_of r c.args.field c.args.dvcc) c.from-lent.ensures c.push_outcome-outcome.ensures.answer c.push_outcome-outcome.ensures.moved
    c.from.ensures c.flat_answer.ensures
