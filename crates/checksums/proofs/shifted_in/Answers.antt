-- `checksums::shifted_in` meets its contract: the two cases of the feedback. Assumes nothing.
use mathlib.Core.Path.{◌∙◌, sym}
use Prim.Native.Nat.{◌%◌}
use native.Mathlib.Omega.{arith}
use Rattle.checksums.proofs.Shifting.{shifted_same, shifted_other, low_input, top_of, top_width}
use Rattle.checksums.proofs.shifted_in.Goals as goal

pub returns-then-register-top : goal.returns-then-register-top
returns-then-register-top g c =
    let pre = c.requires in
    let a = c.args in
    shifted_same (top_of g.row.N) a.polynomial a.register (a.input % 2) g.row.N pre.0 (top_width g.row.N pre.0 pre.1) (c.if-register-top.true ∙ c.from.ensures)
    ∙ low_input g.row.N a.polynomial a.register a.input

pub returns-else-register-top : goal.returns-else-register-top
returns-else-register-top g c =
    let pre = c.requires in
    let a = c.args in
    shifted_other (top_of g.row.N) a.polynomial a.register (a.input % 2) g.row.N pre.0 (top_width g.row.N pre.0 pre.1) pre.3 pre.2 (omega arith) (λ e. c.if-register-top.false (e ∙ sym c.from.ensures))
    ∙ low_input g.row.N a.polynomial a.register a.input
