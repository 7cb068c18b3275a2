-- `session::Session::finish` meets its contract: a last line, then the closing lines. Assumes nothing.
use mathlib.Core.Path.{ap, sym, ◌∙◌}
use mathlib.Core.List.{◌++◌}
use lib.Dec.{eqb}
use lib.ListN.{length}
use Rattle.session.specs.Scanning.{Scan, end_said}
use Rattle.session.specs.Totals.{closing}
use Rattle.session.proofs.Ending.{Closed, finished, last_none, last_some}
use Rattle.session.proofs.Session.finish.Goals as goal
use Rattle.session.proofs.Session.finish.Goals.{then-not-empty, else-not-empty}

pub returns : goal.returns
returns g c =
    let start = c.args.self.now in
    let empty = ap (λ (s : Scan). eqb (length s.part) 0) (sym c.self.view_is) ∙ sym c.is_empty-empty.ensures in
    let last : Closed start c.if-not-empty.self c.if-not-empty.page = elim c.if-not-empty.branch [
      | then-not-empty w ↦ last_some (empty ∙ w.if-not-empty.true) (w.self-is ∙ w.end_line.ensures.session)
          (w.page-is ∙ w.end_line.ensures.text ∙ ap (λ l. l ++ end_said start) c.clear.ensures)
      | else-not-empty w ↦ last_none (empty ∙ w.if-not-empty.false) w.self-is (w.page-is ∙ c.clear.ensures)
    ] in
    record {
      session = last.state;
      text = finished last (c.put_closing.ensures.text ∙ ap (λ (s : Scan). c.if-not-empty.page ++ closing s.state.tally s.state.counts) c.self-2.view_is);
    }
