-- `tailbiting::tail_biting` meets its contract: the metric of the rows is the weight. Assumes nothing.
use Rattle.std.proofs.Common.{arith, List, ℕ}
use mathlib.Core.Path.{subst, sym}
use Rattle.trellis.specs.Search.{Found}
use Rattle.trellis.specs.Words.{OfLength}
use Rattle.tailbiting.specs.TailBiting.{tail_weight}
use Rattle.tailbiting.proofs.Branches.{small_rows, found_weight}
use Rattle.tailbiting.proofs.tail_biting.Goals as goal

pub invariant_of-received : goal.invariant_of-received
invariant_of-received c =
    let filled = c.fill_rows in
    let numbered = c.step_numbers-symbols in
    record {
      small = small_rows c.args.received.now numbered.result filled.new.rows (omega arith) numbered.ensures.0 c.requires.0 filled.ensures numbered.ensures.1;
      short = omega arith;
    }

pub returns : goal.returns
returns c =
    let filled = c.fill_rows in
    let numbered = c.step_numbers-symbols in
    let weighed =
    found_weight c.args.received.now numbered.result filled.new.rows (omega arith) numbered.ensures.0 c.requires.0 filled.ensures numbered.ensures.1 _ _
    c.search-outcome.ensures
    in
    subst (λ (w : List ℕ). Found (OfLength 65) (tail_weight c.args.received.now) w c.search-outcome.result) (sym c.copy_from_slice.ensures.after) weighed
