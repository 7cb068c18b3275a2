-- `frames::streams::Streams::tell_left` meets its contract. Assumes nothing.
use Rattle.frames.specs.Streams.{left_text}
use Rattle.frames.specs.Streams.Message.{left}
use Rattle.frames.proofs.streams.Streams.tell_left.Goals as goal

pub tell-requires : goal.tell-requires
unfolding left_text
tell-requires c = left
