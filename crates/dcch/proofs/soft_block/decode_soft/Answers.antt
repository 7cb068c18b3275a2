-- `dcch::soft_block::decode_soft` meets its contract: the search of the cells. Assumes nothing.
use mathlib.Core.Path.{ap, ap₂, refl, ◌∙◌}
use Prim.Native.Nat.{ℕ}
use lib.Ieee.{nan}
use lib.ListN.{length}
use Rattle.bits.specs.Arguments.{exact_of, first_refusal}
use Rattle.dcch.proofs.SoftDecodings.{asks_cells, settled_end}
use Rattle.dcch.proofs.soft_block.decode_soft.Goals as goal

pub search_cells-requires : goal.search_cells-requires
search_cells-requires c =
    asks_cells c.args.format c.args.block.now c.args.dvcc c.args.mode c.args.information.now
    (ap₂ first_refusal (c.exact.ensures ∙ ap (λ (n : ℕ). exact_of n (length c.args.block.now)) c.encoded_bits-bits.ensures)
    (c.exact-2.ensures ∙ ap (λ (n : ℕ). exact_of n (length c.args.information.now)) c.information_bits.ensures))
    (ap₂ first_refusal c.in_ok-exact.was c.in_ok-exact-2.was) c.all_finite.ensures c.if-not-all_finite.false _ c.encoded_bits-bits.ensures _ refl
    c.deinterleave.new.cells c.deinterleave.auto.cells (c.deinterleave.ensures nan)

pub returns : goal.returns
returns c =
    settled_end c.args.format c.args.block.now c.args.dvcc c.args.mode c.args.information.now
    (ap₂ first_refusal (c.exact.ensures ∙ ap (λ (n : ℕ). exact_of n (length c.args.block.now)) c.encoded_bits-bits.ensures)
    (c.exact-2.ensures ∙ ap (λ (n : ℕ). exact_of n (length c.args.information.now)) c.information_bits.ensures))
    (ap₂ first_refusal c.in_ok-exact.was c.in_ok-exact-2.was) c.all_finite.ensures c.if-not-all_finite.false _ c.encoded_bits-bits.ensures _ refl
    c.deinterleave.new.cells c.deinterleave.auto.cells (c.deinterleave.ensures nan) c.search_cells.ensures
