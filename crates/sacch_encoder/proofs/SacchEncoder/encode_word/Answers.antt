-- `sacch_encoder::SacchEncoder::encode_word` meets its contract: the encoder fits, and the header's bits are bits. Assumes nothing.
use mathlib.Core.Path.{refl, ap, ◌∙◌}
use mathlib.Core.List.{[], ◌∷◌}
use Prim.Native.Nat.{ℕ}
use native.Mathlib.Omega.{arith}
use Rattle.bits.specs.Bits.{all_binary}
use Rattle.bits.proofs.Binary.{binary_cons, binary_bytes}
use Rattle.words.proofs.Made.{flag_binary}
use Rattle.sacch_encoder.proofs.Fits.{fit_ready}
use Rattle.sacch_encoder.proofs.SacchEncoder.encode_word.Goals as goal

pub complete-requires : goal.complete-requires
complete-requires c =
    (refl, ap (λ (b : ℕ). all_binary (b ∷ 0 ∷ [])) c.from.ensures ∙ flag_binary c.args.continuation _ (binary_cons _ [] (omega arith) ∙ binary_bytes []))

pub send-requires : goal.send-requires
send-requires c =
    let fit = fit_ready _ _ c.in_ok-arguments.ensures in
    (fit.memory, fit.cursor)
