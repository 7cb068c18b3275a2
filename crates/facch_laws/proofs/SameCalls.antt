-- `decode` answers bits as `decode_erased` does. Assumes nothing.
use mathlib.Core.Path.{◌≡◌, sym, ap, ◌∙◌}
use mathlib.Core.Bool.{Bool, true, cond}
use mathlib.Core.List.{List}
use Prim.Native.Nat.{ℕ}
use lib.ListN.{length}
use Rattle.bits.specs.Bits.{all_binary}
use Rattle.bits.specs.Arguments.{first_refusal, exact_of, binary_of, Arguments}
use Rattle.bits.specs.Observed.{erasable_of}
use Rattle.std.specs.Prelude.{Ok, Err}
use Rattle.bits.specs.declared.Refusal.TheVariants as refusal
use Rattle.bits.proofs.Erased.{binary_erasable}
use Rattle.facch.specs.Decoding.{erased_arguments, decode_arguments, decoding}

pub same_calls : (coded : List ℕ) (dvcc : ℕ) → all_binary coded ≡ true → decoding (decode_arguments coded) coded dvcc ≡ decoding (erased_arguments coded) coded dvcc
same_calls coded dvcc e =
    let binary : binary_of coded ≡ Ok tt = ap (λ (t : Bool). cond t (Ok tt) (Err refusal.Symbol)) e in
    let erasable : erasable_of coded ≡ Ok tt = ap (λ (t : Bool). cond t (Ok tt) (Err refusal.Symbol)) (binary_erasable coded e) in
    ap (λ (l : Arguments). decoding (first_refusal (exact_of 260 (length coded)) l) coded dvcc) (binary ∙ sym erasable)
