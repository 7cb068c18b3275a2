-- What the flat functions over FACCH words answer.
use Rattle.std.specs.Prelude.{false, Result, Ok, Err}
use Rattle.bits.specs.Refusals.{number_of, expected_of, actual_of}
use Rattle.bits.specs.declared.Refusal.{Refusal}
use Rattle.facch.specs.declared.FacchWord.{FacchWord}
use Rattle.flat_facch.specs.declared.Word.{Word}

-- the numbers of a refusal, with zeros beside them
abbrev pub no_word : Refusal → Word
no_word why =
    record { refusal = number_of why; expected = expected_of why; actual = actual_of why; continuation = false; message = 0; corrected = 0; observed = 0 }

-- the content of a word, or the refusal
abbrev pub flat_content : Result FacchWord Refusal → Word
flat_content (Ok w) =
    record {
      refusal = 0;
      expected = 0;
      actual = 0;
      continuation = w.continuation;
      message = w.message;
      corrected = w.corrected;
      observed = w.observed;
    }
flat_content (Err why) = no_word why
