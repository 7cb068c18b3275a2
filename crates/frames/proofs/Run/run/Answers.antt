-- `frames::Run::run` meets its contract: by the law of the transcript all that it wrote is the output of all that it read. Assumes nothing.
use Rattle.frames.proofs.Turning.{all_written, turns_fed}
use Rattle.frames.proofs.Run.run.Goals as goal

pub returns : goal.returns
returns c =
    let heard = c.listen-last.ensures in
    record {
      session = _;
      listened = heard;
      totals = all_written _ (turns_fed heard.turned.turns) _ _ c.conclude-totals.ensures;
      failure = c.tell_failure-failure.ensures;
      left = c.tell_left-left.ensures;
    }
