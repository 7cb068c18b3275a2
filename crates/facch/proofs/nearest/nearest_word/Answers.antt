-- `facch::nearest::nearest_word` meets its contract: the word of the inputs that the search finds. Assumes nothing.
use Rattle.std.proofs.Common.{◌++◌, List, ℕ, drop, ap₂, ◌∙◌, length-take, length-drop, arith}
use lib.Seq.{take_all}
use Rattle.facch.proofs.Turned.{inputs_length, searched}
use Rattle.facch.proofs.nearest.nearest_word.Goals as goal

pub slice_bounds-copy_from_slice-end-2 : goal.slice_bounds-copy_from_slice-end-2
slice_bounds-copy_from_slice-end-2 c = omega (arith, length-take 60 c.tail_biting-found.new.inputs, inputs_length _ c.tail_biting-found.ensures)

pub copy_from_slice-requires-2 : goal.copy_from_slice-requires-2
copy_from_slice-requires-2 c = omega (arith, length-take 60 c.tail_biting-found.new.inputs, inputs_length _ c.tail_biting-found.ensures, c.split_at_mut-first.ensures.back_len)

pub returns : goal.returns
returns c =
    let inputs = c.tail_biting-found.new.inputs in
    let last = take_all 5 (drop 60 inputs) (omega (arith, length-drop 60 inputs, inputs_length _ c.tail_biting-found.ensures)) in
    searched _ c.tail_biting-found.ensures (ap₂ (λ (a b : List ℕ). a ++ b) (c.copy_from_slice.ensures.after ∙ last) c.copy_from_slice-2.ensures.after)
