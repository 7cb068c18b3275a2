-- `session::Session::new` meets its contract: nothing is heard or counted. Assumes nothing.
use mathlib.Core.Path.{◌≡◌}
use Rattle.std.proofs.Common.{rules}
use Rattle.session.specs.Totals.{nothing_added}
use Rattle.session.proofs.Ended.{start_fits, started}
use Rattle.session.proofs.Session.new.Goals as goal

pub invariant_of-result : goal.invariant_of-result
unfolding nothing_added
invariant_of-result c = let zero : c.default.result ≡ nothing_added = search rules in start_fits zero c.new.ensures

pub returns : goal.returns
unfolding nothing_added
returns c = let zero : c.default.result ≡ nothing_added = search rules in started c.new-2.ensures zero c.new.ensures
