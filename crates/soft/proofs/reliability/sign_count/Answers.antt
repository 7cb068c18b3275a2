-- `soft::reliability::sign_count` meets its contract. Assumes nothing.
use Rattle.std.proofs.Common.{arith, rules, ap₂, ◌∙◌, ◌+◌, ℕ, subst, sym, length-append}
use Rattle.std.specs.Float.{Float, nan}
use Rattle.std.proofs.lemmas.Slice.Zip.{zip_end, zip_turn}
use Rattle.bits.specs.Bits.{bit, disagreement}
use Rattle.soft.specs.Reliability.{negative}
use Rattle.soft.proofs.Signs.{Counting, counting_more, counting_done}
use Rattle.soft.proofs.reliability.sign_count.Goals as goal

pub loop-sent-preserved : goal.loop-sent-preserved
loop-sent-preserved c =
    let z = zip_turn c.args.coded.now c.args.values.now c.loop-sent.yielded c.into_iter-sent-iterator.result _ c.next.new.self _ (search rules) (search rules) c.loop-sent.yielded_by
    (c.in-Some.sent, c.in-Some.value) c.in-Some.is c.next.ensures.steps in
    let more = counting_more c.loop-sent.invariant c.differs_from_sign-n.result z.0 c.requires.1
    (c.differs_from_sign-n.ensures.0 ∙ ap₂ (λ (a : ℕ) (b : Float). disagreement (bit a) (negative b)) (z.2 0) (z.3 nan)) in
    subst (Counting c.args.coded.now c.args.values.now (c.loop-sent.n + c.differs_from_sign-n.result)) (sym (length-append c.loop-sent.yielded _)) more

pub returns : goal.returns
returns c =
    let z = zip_end c.args.coded.now c.args.values.now c.loop-sent.yielded c.into_iter-sent-iterator.result _ c.next.new.self _ (search rules) (search rules) c.loop-sent.yielded_by
    c.in-None.is c.next.ensures.steps in
    counting_done c.loop-sent.invariant (omega arith)
