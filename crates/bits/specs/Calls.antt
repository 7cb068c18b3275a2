-- What a call that writes bits does.
use Rattle.std.specs.Prelude.{◌≡◌, List, ℕ, Ok, Err}
use Rattle.bits.specs.Arguments.{Arguments}
use Rattle.bits.specs.declared.Refusal.{Refusal}

-- refused with nothing written, or accepted with the result in the buffer
pub record WriteCall (arguments : Arguments) (result buffer₀ buffer : List ℕ) (r : Arguments) : Type 0 where
  pub declined : (why : Refusal) → arguments ≡ Err why → (r ≡ Err why) × (buffer ≡ buffer₀)
  pub done : arguments ≡ Ok tt → (r ≡ Ok tt) × (buffer ≡ result)
