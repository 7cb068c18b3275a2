-- What an accepted state says, and that it is kept. Assumes nothing.
use mathlib.Core.Path.{◌≡◌, refl, sym, subst}
use mathlib.Core.Bool.{true, ◌&&◌}
use Prim.Native.Nat.{ℕ, ◌+◌, ◌<◌}
use native.Mathlib.Nat.{mod-lt}
use native.Mathlib.Omega.{arith}
use borrow.Author.Tests.{lt-ltb, ltb-true}
use lib.Dec.{ltb}
use Rattle.bits.specs.Arguments.{Arguments, below_of, first_refusal}
use Rattle.bits.specs.declared.Refusal.TheVariants.{State}
use Rattle.bits.proofs.Refusing.{test_passed, passed_below, passed_first}
use Rattle.std.specs.Prelude.{Ok}
use Rattle.sacch_interleaver.specs.Diagonal.{all_twelve}
use Rattle.sacch_interleaver.proofs.Deinterleaving.{and_parts}
use Rattle.bits.proofs.Below.{below_set}
use Rattle.sacch_encoder.specs.Encoder.{encoder_fits, encoder_state, encoded}
use Rattle.sacch_encoder.specs.declared.SacchEncoder.{SacchEncoder}
use Rattle.sacch_encoder.proofs.Rows.{row_below, memory_below}

pub record Fit (e : SacchEncoder) : Type 0 where
  pub memory : e.memory < 32
  pub cursor : e.cursor < 12
  pub rows : all_twelve e.rows ≡ true

pub fit_of : (e : SacchEncoder) → encoder_fits e ≡ true → Fit e
unfolding encoder_fits
fit_of e t =
    let all = and_parts (ltb e.memory 32 && ltb e.cursor 12) (all_twelve e.rows) t in
    let numbers = and_parts (ltb e.memory 32) (ltb e.cursor 12) all.0 in
    record { memory = ltb-true e.memory 32 numbers.0; cursor = ltb-true e.cursor 12 numbers.1; rows = all.1 }

pub fits : (e : SacchEncoder) → Fit e → encoder_fits e ≡ true
unfolding encoder_fits
fits e f = rw (lt-ltb e.memory 32 f.memory, lt-ltb e.cursor 12 f.cursor) f.rows

-- after six bits the numbers are in their ranges again
module _ (e : SacchEncoder) (six : ℕ) {next : SacchEncoder} (told : next ≡ encoded e six) where
  pub memory_next : next.memory < 32
  unfolding encoded
  memory_next = subst (λ (n : SacchEncoder). n.memory < 32) (sym told) (memory_below e.memory six)

  pub cursor_next : next.cursor < 12
  unfolding encoded
  cursor_next = subst (λ (n : SacchEncoder). n.cursor < 12) (sym told) (mod-lt (e.cursor + 1) (omega arith))

-- six bits keep it
pub fit_encoded : (e : SacchEncoder) (six : ℕ) → Fit e → Fit (encoded e six)
unfolding encoded
fit_encoded e six f =
    record {
      memory = memory_next e six refl;
      cursor = cursor_next e six refl;
      rows = below_set 4096 e.rows e.cursor _ f.rows (row_below e.memory six);
    }

-- the tests of a call passed
pub fit_ready : (e : SacchEncoder) (later : Arguments) → Ok tt ≡ first_refusal (encoder_state e) later → Fit e
fit_ready e later told = fit_of e (test_passed (encoder_fits e) State (Ok tt) (passed_first (encoder_state e) later (sym told)).0).0

pub given_below : (e : SacchEncoder) (limit given : ℕ) → first_refusal (encoder_state e) (below_of limit given) ≡ Ok tt → given < limit
given_below e limit given ready = passed_below limit given (passed_first (encoder_state e) (below_of limit given) ready).1
