-- The answer that tells a refusal: document 01's number, and the lengths.
use Rattle.bits.specs.declared.Refusal.{Refusal}
use Rattle.bits.specs.Refusals.{actual_of, expected_of, number_of}
use Rattle.calls.specs.declared.answers.Answer.{Answer}
use Rattle.calls.specs.declared.answers.Answer.TheVariants.{Refused}

abbrev pub refused : Refusal → Answer
refused why = Refused (number_of why) (expected_of why) (actual_of why)
