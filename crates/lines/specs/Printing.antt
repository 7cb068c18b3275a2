-- The lines that answer (document 01, 'The line program `frames`'), as bytes. Every line ends with LF (10).
use Rattle.std.specs.Prelude.{Bool, List, [], ◌∷◌, ◌++◌, ℕ}
use Rattle.bits.specs.Bits.{byte}
use Rattle.bits.specs.Refusals.{number_of}
use Rattle.bits.specs.declared.Refusal.{Refusal}
use Rattle.text.specs.Numerals.{decimal, hexadecimal}
use Rattle.lines.specs.declared.reply.Reply.{Reply}
use Rattle.lines.specs.declared.reply.Reply.TheVariants.{Nothing, Pending, Refused, SacchWord, Discontinuous, FacchWord}

-- ---- the answers
-- `R n`: document 01's number of a refusal
unfoldable pub refusal_text : Refusal → List ℕ
refusal_text why = 82 ∷ (hexadecimal 1 (number_of why) ++ 10 ∷ [])

-- a word's letter, its continuation as 0 or 1, its message as 12 digits, and two numbers of so many digits
unfoldable pub word_text : ℕ → ℕ → Bool → ℕ → ℕ → ℕ → List ℕ
word_text letter width continuation message x y =
    (letter ∷ (hexadecimal 1 (byte continuation) ++ hexadecimal 12 message)) ++ (hexadecimal width x ++ (hexadecimal width y ++ 10 ∷ []))

-- `P`; `R n`; `W c m k e`, corrected and ending memory in 2 digits; `D`; `G c m k o`, corrected and observed in 3 digits; nothing of a line that is skipped
unfoldable pub reply_text : Reply → List ℕ
reply_text Nothing = []
reply_text Pending = 80 ∷ 10 ∷ []
reply_text (Refused why) = refusal_text why
reply_text (SacchWord continuation message corrected ending) = word_text 87 2 continuation message corrected ending
reply_text Discontinuous = 68 ∷ 10 ∷ []
reply_text (FacchWord continuation message corrected observed) = word_text 71 3 continuation message corrected observed

-- ---- the closing lines
-- `T w r`, decimal
unfoldable pub total_text : ℕ → ℕ → List ℕ
total_text w r = 84 ∷ 32 ∷ (decimal w ++ 32 ∷ (decimal r ++ 10 ∷ []))

-- `C dd n`, the code hexadecimal and its count decimal
unfoldable pub code_text : ℕ → ℕ → List ℕ
code_text d n = 67 ∷ (hexadecimal 2 d ++ 32 ∷ (decimal n ++ 10 ∷ []))
