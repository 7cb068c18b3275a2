-- The reply to one line. Assumes nothing.
use mathlib.Core.Path.{◌≡◌, refl, sym, ap, ◌∙◌}
use mathlib.Core.Bool.{Bool, true, false, cond}
use mathlib.Core.List.{List, [], ◌∷◌}
use Prim.Native.Nat.{ℕ, ◌<◌, ◌≤◌}
use native.Mathlib.Omega.{arith}
use lib.ListN.{length, take, drop, replicate}
use Rattle.bits.specs.declared.Refusal.TheVariants.{Line}
use Rattle.bits.specs.Arguments.{Arguments}
use Rattle.bits.specs.declared.Refusal.{Refusal}
use Rattle.std.specs.Prelude.{Result, Ok}
use Rattle.bits.specs.Bits.{all_below}
use Rattle.bits.proofs.Refusing.{erasable_passed}
use Rattle.bits.specs.Observed.{all_erasable}
use Rattle.facch.specs.Decoding.{decode_of, decoding, erased_arguments}
use Rattle.facch.specs.declared.FacchWord.{FacchWord}
use Rattle.lines.specs.Commands.{by_form, by_kind, discontinuity_shape, facch_shape, parsed, sacch_shape, three_at}
use Rattle.lines.specs.Masked.{digit_bits, masked, observed_bits}
use Rattle.lines.specs.declared.command.Command.{Command}
use Rattle.lines.specs.declared.command.Command.TheVariants as command
use Rattle.lines.specs.declared.reply.Reply.TheVariants as reply
use Rattle.lines.proofs.Forms.{facch_line, parsed_long, parsed_spaces, sacch_line}
use Rattle.lines.proofs.Masking.{length-observed}
use Rattle.text.specs.Lines.{shaped, two_at}
use Rattle.text.specs.LineKinds.{kind_of}
use Rattle.text.specs.declared.kind.LineKind.{LineKind}
use Rattle.text.specs.declared.kind.LineKind.TheVariants as kind
use Rattle.text.proofs.LineKinds.{cut_alike}
use Rattle.sacch_receiver.specs.declared.SacchReceiver.{SacchReceiver}
use Rattle.session.specs.Replies.{command_replied, reply_to, sacch_replied}

pub replied_at : (r : SacchReceiver) (l : List ℕ) {p q : Command} → p ≡ parsed l → p ≡ q → command_replied r l q ≡ reply_to r l
unfolding reply_to
replied_at r l e f = ap (command_replied r l) (sym f ∙ e)

-- ---- the bits of an `F` line are 260 bytes 0, 1 and 2
masked_erasable : (bs ms : List Bool) → all_erasable (masked bs ms) ≡ true
unfolding masked all_below
masked_erasable [] ms = refl
masked_erasable (b ∷ bs) [] = refl
masked_erasable (b ∷ bs) (false ∷ ms) = masked_erasable bs ms
masked_erasable (false ∷ bs) (true ∷ ms) = masked_erasable bs ms
masked_erasable (true ∷ bs) (true ∷ ms) = masked_erasable bs ms

pub observed_passed : (l : List ℕ) → length l ≡ 136 → erased_arguments (observed_bits l) ≡ Ok tt
unfolding observed_bits
observed_passed l e =
    erasable_passed 260 (observed_bits l) (length-observed l e) (masked_erasable (digit_bits (take 65 (drop 5 l))) (digit_bits (take 65 (drop 71 l))))

-- what `decode_erased` answers to them
pub facch_answered : (l : List ℕ) (dvcc : ℕ) {bits : List ℕ} {d : Result FacchWord Refusal} → length l ≡ 136 → bits ≡ observed_bits l
    → d ≡ decoding (erased_arguments bits) bits dvcc → d ≡ decode_of (observed_bits l) dvcc
facch_answered l dvcc long e p =
    p ∙ ap (λ (bits : List ℕ). decoding (erased_arguments bits) bits dvcc) e ∙ ap (λ (x : Arguments). decoding x (observed_bits l) dvcc) (observed_passed l long)

-- ---- the code of a line has two digits
form_code : (r : SacchReceiver) (l : List ℕ) (t u v : Bool) → shaped sacch_shape l ≡ t → shaped facch_shape l ≡ v
    → (command_replied r l (cond t (command.Sacch (two_at l 2) (three_at l 5)) (cond u command.Discontinuity (cond v (command.Facch (two_at l 2)) command.Unknown)))).dvcc < 256
unfolding command_replied sacch_replied
form_code r l true u v e f = let s = sacch_line l e in omega (arith, s.d2, s.d3)
form_code r l false true v e f = omega arith
form_code r l false false true e f = let s = facch_line l f in omega (arith, s.d2, s.d3)
form_code r l false false false e f = omega arith

pub code_below : (r : SacchReceiver) (l : List ℕ) → (reply_to r l).dvcc < 256
unfolding reply_to parsed by_kind by_form command_replied
code_below r l = by (kind_of l)
  where
    by : (k : LineKind) → (command_replied r l (by_kind k l)).dvcc < 256
    by kind.TooLong = omega arith
    by kind.Blank = omega arith
    by kind.Filled = form_code r l (shaped sacch_shape l) (shaped discontinuity_shape l) (shaped facch_shape l) refl refl

-- ---- long and blank lines
pub long_replied : (r : SacchReceiver) (l : List ℕ) → 136 < length l → reply_to r l ≡ record { receiver = r; dvcc = 0; reply = reply.Refused Line }
unfolding command_replied
long_replied r l h = sym (replied_at r l (parsed_long l h) refl)

pub spaces_replied : (r : SacchReceiver) (n : ℕ) → n ≤ 136 → reply_to r (replicate n 32) ≡ record { receiver = r; dvcc = 0; reply = reply.Nothing }
unfolding command_replied
spaces_replied r n h = sym (replied_at r (replicate n 32) (parsed_spaces n h) refl)

-- no reply depends on more than 137 characters
pub replied_cut : (r : SacchReceiver) (l : List ℕ) → reply_to r (take 137 l) ≡ reply_to r l
replied_cut r = cut_alike (reply_to r) (long_replied r)
