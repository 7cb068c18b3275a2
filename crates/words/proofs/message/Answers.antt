-- `words::message` meets its contract: 48 bits, packed. Assumes nothing.
use Rattle.words.proofs.Parts.{message_is}
use Rattle.words.proofs.message.Goals as goal

pub returns : goal.returns
returns c = message_is c.args.word.now c.args.header c.pack.ensures
