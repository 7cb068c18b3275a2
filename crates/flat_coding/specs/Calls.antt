-- The answer of a call that writes bits, as a flat record.
use Rattle.std.specs.Prelude.{◌≡◌, Ok, Err}
use Rattle.bits.specs.Arguments.{Arguments}
use Rattle.bits.specs.Refusals.{number_of, expected_of, actual_of}
use Rattle.bits.specs.declared.Refusal.{Refusal}
use Rattle.flat_coding.specs.declared.calls.Written.{Written}

abbrev pub not_written : Refusal → Written
not_written why = record { refusal = number_of why; expected = expected_of why; actual = actual_of why }

abbrev pub flat_wrote : Arguments → Written
flat_wrote (Ok done) = record { refusal = 0; expected = 0; actual = 0 }
flat_wrote (Err why) = not_written why

-- the answer of a call, of which Call says what it means, made flat
pub record FlatWrote (Call : Arguments → Type 0) (r : Written) : Type 0 where
  pub answer : Arguments
  pub holds : Call answer
  pub flat : r ≡ flat_wrote answer
