-- `sacch_encoder::SacchEncoder::send` meets its contract: one six after the other, then the fields of all. Assumes nothing.
use Prim.Native.Nat.{◌<◌}
use native.Mathlib.Omega.{arith}
use Rattle.sacch_encoder.specs.Words.{sixes_of}
use Rattle.sacch_encoder.proofs.WordBits.{six_packed}
use Rattle.sacch_encoder.proofs.Slots.{slots_none, slots_more, slots_done}
use borrow.Author.Rules.{rules}
use Rattle.sacch_encoder.proofs.SacchEncoder.send.Goals as goal

pub loop-i-init : goal.loop-i-init
loop-i-init c = slots_none c.requires.0 c.requires.1 (search rules) c.aged-run.ensures

pub store-requires : goal.store-requires
store-requires c =
    let at = c.loop-i.invariant in
    (at.memory, at.held.cursor)

pub loop-i-preserved : goal.loop-i-preserved
loop-i-preserved c =
    let at = c.loop-i in
    let word = c.args.word.now in
    let h : at.i < 11 = omega (arith, c.as_chunks.ensures.front_len) in
    slots_more at.invariant h (six_packed word c.as_chunks.ensures.front c.told-word at.i h) c.store.ensures.row c.store.ensures.moved

pub returns-clause-moved : goal.returns-clause-moved
unfolding sixes_of
returns-clause-moved c = (slots_done c.loop-i.invariant (omega (arith, c.as_chunks.ensures.front_len)) c.fields_of.ensures.0 c.fields_of.ensures.1).0

pub returns-clause-sent : goal.returns-clause-sent
unfolding sixes_of
returns-clause-sent c = (slots_done c.loop-i.invariant (omega (arith, c.as_chunks.ensures.front_len)) c.fields_of.ensures.0 c.fields_of.ensures.1).1
