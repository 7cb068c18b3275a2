-- The first of bytes that are all alike.
use Rattle.std.proofs.Common.{◌≤◌, ◌∙◌, ap, arith, replicate}
use Rattle.std.proofs.lemmas.List.{take-replicate}
use Rattle.calls.proofs.bytes.Bytes.repeated.Goals as goal

pub returns : goal.returns
returns c =
    let within : c.min.result ≤ 800 = omega (arith, c.min.ensures) in
    take-replicate c.min.result 800 c.args.byte within ∙ ap (λ n. replicate n c.args.byte) c.min.ensures
