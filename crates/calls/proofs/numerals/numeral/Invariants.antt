-- The digits passed are digits, and are read.
use Rattle.std.proofs.Common.{◌≡◌, ◌<◌, All, take}
use Rattle.text.specs.Lines.{digit_of}
use Rattle.calls.specs.Numerals.{numeral_of}
use Rattle.calls.proofs.numerals.numeral.Given as goal

abbrev pub invariant-loop-byte : goal.invariant-loop-byte
invariant-loop-byte l =
    record {
      digits : All (λ character. digit_of character < 16) (take l.byte-index l.word);
      value : l.number ≡ numeral_of l.base l.bound (take l.byte-index l.word);
    }
