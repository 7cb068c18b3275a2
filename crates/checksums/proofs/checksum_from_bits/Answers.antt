-- `checksums::checksum_from_bits` meets its contract: the bits left, into the register, end where all of them end. Assumes nothing.
use mathlib.Core.Path.{◌≡◌, sym, ap, subst, ◌∙◌}
use mathlib.Core.List.{List}
use Prim.Native.Nat.{ℕ, ◌*◌}
use native.Mathlib.Omega.{arith}
use lib.ListN.{length, drop}
use Rattle.bits.specs.Bits.{bits}
use Rattle.bits.specs.Numbers.{packed}
use Rattle.checksums.specs.Feedback.{register_after}
use Rattle.checksums.proofs.Fours.{ByFours, by_fours_none, by_fours_more, by_fours_done, four_at, four_length, four_below}
use Rattle.checksums.proofs.Runs.{from_after}
use Rattle.checksums.proofs.checksum_from_bits.Goals as goal

pub loop-four-init : goal.loop-four-init
loop-four-init c = by_fours_none _ _ (omega arith)

pub pack-requires : goal.pack-requires
pack-requires c =
    let s = c.args.information.now in
    let at = four_at s c.as_chunks.ensures.front c.as_chunks.ensures.front_len c.loop-four-test.true in
    omega (arith, ap length at.0, four_length s (c.loop-four.four-index * 4) at.1)

pub overflow_cast-pack : goal.overflow_cast-pack
overflow_cast-pack c =
    let s = c.args.information.now in
    let at = four_at s c.as_chunks.ensures.front c.as_chunks.ensures.front_len c.loop-four-test.true in
    let e : c.pack.result ≡ packed (bits _) = c.pack.ensures ∙ ap (λ (l : List ℕ). packed (bits l)) at.0 in
    record { fits = omega (arith, e, four_below s (c.loop-four.four-index * 4) at.1) }

pub four_in-last-requires : goal.four_in-last-requires
four_in-last-requires c =
    let s = c.args.information.now in
    let at = four_at s c.as_chunks.ensures.front c.as_chunks.ensures.front_len c.loop-four-test.true in
    let e : c.pack.result ≡ packed (bits _) = c.pack.ensures ∙ ap (λ (l : List ℕ). packed (bits l)) at.0 in
    omega (arith, e, four_below s (c.loop-four.four-index * 4) at.1)

pub loop-four-preserved : goal.loop-four-preserved
loop-four-preserved c =
    let s = c.args.information.now in
    let at = four_at s c.as_chunks.ensures.front c.as_chunks.ensures.front_len c.loop-four-test.true in
    let e = c.pack.ensures ∙ ap (λ (l : List ℕ). packed (bits l)) at.0 in
    subst (ByFours s c.args.register c.four_in-last.result) (omega arith) (by_fours_more c.loop-four.invariant at.1 e c.four_in-last.ensures)

pub run-requires : goal.run-requires
run-requires c = (omega arith, omega arith, c.loop-four.invariant.fits, omega arith)

pub returns : goal.returns
returns c =
    let ends = c.as_chunks.ensures in
    let s = c.args.information.now in
    let last : c.as_chunks.result.1.now ≡ drop (c.loop-four.four-index * 4) s = ends.back ∙ ap (λ (n : ℕ). drop n s) (omega (arith, ends.front_len)) in
    by_fours_done c.loop-four.invariant (c.run.ensures ∙ ap (λ (l : List ℕ). register_after 16 4129 c.loop-four.last (bits l)) last) ∙ sym (from_after _ _)
