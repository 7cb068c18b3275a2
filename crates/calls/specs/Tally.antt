-- How an answer is counted.
use Rattle.std.specs.Prelude.{Bool, ℕ, ◌+◌, ◌-◌, ◌^◌, if◌then◌else◌, min, slice_index, slice_set}
use Rattle.calls.specs.declared.answers.Answer.{Answer}
use Rattle.calls.specs.declared.answers.Answer.TheVariants.{Refused}
use Rattle.calls.specs.declared.tally.Tally.{Tally}

-- one more, up to the largest count
abbrev pub one_more : ℕ → ℕ
one_more count = min (count + 1) (2 ^ 32 - 1)

-- an answer that is a refusal is counted by its number, where that is below 9, and any other as answered
abbrev pub with_answer : Tally → Answer → Tally
with_answer tally (Refused number _ _) = record tally { refused = slice_set tally.refused number (one_more (slice_index tally.refused number)) }
with_answer tally _ = record tally { answered = one_more tally.answered }

-- and beside it one more untouched, where the rooms were left so
abbrev pub with_turn : Tally → Answer → Bool → Tally
with_turn tally answer untouched =
    let counted = with_answer tally answer in
    record counted { untouched = (if untouched then one_more counted.untouched else counted.untouched) }
