-- The ways out of a call that writes bits: refused, or done. Assumes nothing.
use mathlib.Core.Path.{◌≡◌, refl, ◌∙◌}
use mathlib.Core.List.{List}
use Prim.Native.Nat.{ℕ}
use Rattle.std.specs.Prelude.{Ok}
use Rattle.bits.specs.Arguments.{Arguments}
use Rattle.bits.specs.Calls.{WriteCall}
use Rattle.bits.proofs.Refusing.{never_both}

module _ {arguments l : Arguments} {result buffer₀ : List ℕ} (told : l ≡ arguments) where
  pub done_end : l ≡ Ok tt → {buffer : List ℕ} → buffer ≡ result → WriteCall arguments result buffer₀ buffer (Ok tt)
  done_end passed e = record { declined = λ y ey. never_both passed (told ∙ ey); done = λ ef. (refl, e) }
