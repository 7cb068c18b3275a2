-- `session::Session::end_line` meets its contract: no line may be read, or it is answered. Assumes nothing.
use native.Mathlib.Omega.{arith}
use mathlib.Core.Path.{ap, sym, ◌∙◌}
use mathlib.Core.List.{◌++◌, append-nil}
use Rattle.session.proofs.Ended.{ended_none, ended_some, line_fits, said_none, said_some}
use Rattle.session.proofs.Session.end_line.Goals as goal
use Rattle.session.proofs.Session.end_line.Goals.{then-self-gt0, else-self-gt0}

pub invariant_of-self : goal.invariant_of-self
invariant_of-self g c = rw c.clear.ensures (elim c.if-self-gt0.branch [
  | then-self-gt0 w ↦ rw w.self-inside-is (line_fits _ c.self.invariant w.added-more.ensures.1 w.if-self-gt0.true w.add_assign.ensures.after)
  | else-self-gt0 w ↦ rw w.self-inside-is (record { bounds = c.self.invariant.bounds; within = omega arith })
])

pub returns-clause-session : goal.returns-clause-session
returns-clause-session g c = rw (c.clear.ensures, ← c.self.view_is) (elim c.if-self-gt0.branch [
  | then-self-gt0 w ↦ let e = w.reply_to-replied.ensures in rw w.self-inside-is
      (ended_some _ (omega arith) w.as_slice.ensures.value e.reply e.dvcc e.receiver w.added-more.ensures.0 w.add_assign.ensures.after w.from.ensures)
  | else-self-gt0 w ↦ rw w.self-inside-is (ended_none _ (omega arith))
])

pub returns-clause-text : goal.returns-clause-text
returns-clause-text g c = let page = c.args.page.now in rw (← c.self.view_is) (elim c.if-self-gt0.branch [
  | then-self-gt0 w ↦ w.page-is ∙ w.put_reply.ensures.text
      ∙ ap (λ text. page ++ text) (said_some _ (omega arith) w.as_slice.ensures.value w.reply_to-replied.ensures.reply)
  | else-self-gt0 w ↦ w.page-is ∙ sym (append-nil page) ∙ ap (λ text. page ++ text) (said_none _ (omega arith))
])
