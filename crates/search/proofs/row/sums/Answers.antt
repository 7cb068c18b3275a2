-- `search::row::sums` meets its contract: the generators passed are counted. Assumes nothing.
use Rattle.std.proofs.Common.{arith, rules, ap₂, ◌∙◌, List, [], ℕ, subst, sym, length-append}
use Rattle.std.proofs.lemmas.List.{get_or-replicate}
use Rattle.std.proofs.lemmas.Slice.Zip.{zip_end, zip_turn}
use Rattle.search.proofs.Distances.{Counting, added, counting_none, counting_more, counting_done}
use Rattle.search.proofs.row.sums.Goals as goal

pub loop-output-init : goal.loop-output-init
loop-output-init g c = counting_none _ _ _ (λ place h. get_or-replicate 64 place 0 0 h)

pub loop-output-preserved : goal.loop-output-preserved
loop-output-preserved g c =
    let z = zip_turn c.args.outputs.now c.args.received.now c.loop-output.yielded c.into_iter-output-iterator.result _ c.next.new.self _ (search rules) (search rules) c.loop-output.yielded_by
    (c.in-Some.output, c.in-Some.bit) c.in-Some.is c.next.ensures.steps in
    let more = counting_more c.loop-output.invariant c.add_differences.new.sums z.0 z.1
    (λ place h. c.add_differences.ensures place h ∙ ap₂ (λ (a : List ℕ) (b : ℕ). added a b c.loop-output.sums place) (z.2 []) (z.3 0)) in
    subst (Counting c.args.outputs.now c.args.received.now c.add_differences.new.sums) (sym (length-append c.loop-output.yielded _)) more

pub returns : goal.returns
returns g c =
    let z = zip_end c.args.outputs.now c.args.received.now c.loop-output.yielded c.into_iter-output-iterator.result _ c.next.new.self _ (search rules) (search rules) c.loop-output.yielded_by
    c.in-None.is c.next.ensures.steps in
    counting_done c.loop-output.invariant (omega arith)
