-- `frames::streams::Streams::tell_failure` meets its contract. Assumes nothing.
use Rattle.frames.specs.Streams.{failure_text}
use Rattle.frames.specs.Streams.Message.{failure}
use Rattle.frames.proofs.streams.Streams.tell_failure.Goals as goal

pub tell-requires : goal.tell-requires
unfolding failure_text
tell-requires c = failure
