-- `text::line_end` meets its contract: at the first LF, or nowhere. Assumes nothing.
use mathlib.Core.Path.{◌≡◌}
use mathlib.Core.Logic.{◌≢◌}
use borrow.Author.Tests.{tests}
use Rattle.std.proofs.Common.{rules}
use Rattle.std.proofs.lemmas.Iterator.{IsFirst-from_position, YieldsList-from_slice}
use Rattle.text.proofs.Reading.{lf_at, no_lf, rest_of}
use Rattle.text.proofs.line_end.Goals as goal

pub returns-in_err-end-clause-end : goal.returns-in_err-end-clause-end
returns-in_err-end-clause-end c =
    let text = c.args.text.now in
    let first = IsFirst-from_position _ _ c.position.result (λ b. b ≡ 10) (λ b. b ≢ 10) c.position.ensures.ran
    (YieldsList-from_slice (rest_of text c.args.from) c.iter.ensures.rest) (λ x q k. search (rules, tests)) (λ x q k. search (rules, tests)) in
    let none = rw c.in_err-end.was at first in
    rw c.from_residual.ensures (no_lf text c.args.from c.requires none)

pub returns-clause-end : goal.returns-clause-end
returns-clause-end c =
    let text = c.args.text.now in
    let first = IsFirst-from_position _ _ c.position.result (λ b. b ≡ 10) (λ b. b ≢ 10) c.position.ensures.ran
    (YieldsList-from_slice (rest_of text c.args.from) c.iter.ensures.rest) (λ x q k. search (rules, tests)) (λ x q k. search (rules, tests)) in
    let some = rw c.in_ok-end.was at first in
    lf_at text c.args.from c.requires c.in_ok-end.end some.0 some.1 some.2
