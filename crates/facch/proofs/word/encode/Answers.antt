-- `facch::word::encode` meets its contract: the coded bits of the word. Assumes nothing.
use mathlib.Core.List.{[], ◌∷◌}
use mathlib.Core.Path.{ap, ap₂, ◌∙◌}
use Prim.Native.Nat.{ℕ}
use Rattle.bits.specs.Arguments.{first_refusal}
use Rattle.bits.specs.Bits.{all_binary}
use Rattle.bits.proofs.Binary.{binary_bytes}
use Rattle.bits.proofs.Writing.{done_end}
use Rattle.words.proofs.Made.{flag_binary}
use Rattle.facch.proofs.WordBits.{word-coded}
use borrow.Author.Rules.{rules}
use Rattle.facch.proofs.word.encode.Goals as goal

pub complete-requires : goal.complete-requires
complete-requires c = (search rules, ap (λ (flag : ℕ). all_binary (flag ∷ [])) c.from.ensures ∙ flag_binary c.args.continuation _ (binary_bytes []))

pub returns : goal.returns
returns c =
    done_end (ap₂ first_refusal c.exact.ensures c.below.ensures) (ap₂ first_refusal c.in_ok-exact.was c.in_ok-below.was)
    (word-coded c.args.continuation c.args.message c.args.dvcc c.from.ensures c.complete.ensures c.encode_word.ensures)
