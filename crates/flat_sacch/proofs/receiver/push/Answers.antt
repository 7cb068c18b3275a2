-- `flat_sacch::receiver::push` meets its contract: the call's answer and the receiver after it, made flat. Assumes nothing.
use Rattle.sacch_receiver.specs.Receiver.{push_word_of}
use Rattle.sacch_receiver.specs.declared.SacchReceiver.{SacchReceiver}
use Rattle.flat_sacch.specs.Flat.{flat_word_answer, flat_moved_word}
use Rattle.flat_sacch.proofs.Flattened.{flat_call}
use Rattle.flat_sacch.proofs.receiver.push.Goals as goal

pub returns : goal.returns
unfolding flat_moved_word
returns c =
    flat_call flat_word_answer (λ (r : SacchReceiver). push_word_of r c.args.field c.args.dvcc) c.from-lent.ensures c.push-heard.ensures.answer c.push-heard.ensures.moved
    c.from.ensures c.flat_word_answer.ensures
