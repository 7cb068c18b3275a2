-- `flat_coding::transition` meets its contract where it steps: the outputs of the code, then zeros. Assumes nothing.
use mathlib.Core.Path.{◌≡◌, ◌∙◌}
use native.Mathlib.Omega.{arith}
use lib.ListN.{length}
use Rattle.flat_coding.proofs.Steps.{first_four}
use Rattle.flat_coding.proofs.transition.Goals as goal

pub returns : goal.returns
returns g c =
    let step = c.transition-step.result in
    let long : length step.output ≡ g.row.N = omega arith in
    record {
      not_stepped = λ why e. absurd (c.in_default.not-Err why (c.step_arguments.ensures ∙ e));
      taken = λ e. record {
        none = cc;
        outputs = step.output;
        step = c.transition-step.ensures;
        held = rw c.copy_from_slice.ensures.after (first_four step.output long c.min-kept.ensures);
      };
    }
