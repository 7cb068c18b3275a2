-- A call over the flat receiver, and the flat receiver that comes back as it was. Assumes nothing.
use mathlib.Core.Path.{◌≡◌, refl, sym, ap, ap₂, ◌∙◌}
use native.Mathlib.Decide.{ℕ_discrete}
use borrow.Author.Tests.{eq-eqb, ne_eqb}
use Prim.Native.Nat.{ℕ}
use Rattle.std.specs.Prelude.{Result}
use Rattle.bits.specs.declared.Refusal.{Refusal}
use Rattle.sacch_receiver.specs.Receiver.{Moved}
use Rattle.sacch_receiver.specs.declared.SacchReceiver.{SacchReceiver}
use Rattle.flat_sacch.specs.Flat.{flat_receiver, receiver_of, lock_of, lock_byte}
use Rattle.flat_sacch.specs.declared.receiver.Receiver.{Receiver}
use Rattle.flat_sacch.specs.declared.receiver.Pushed.{Pushed}

-- a receiver's call, at the receiver that a flat one stands for, with its answer and the receiver after it made flat
pub flat_call : {A : Type 0} (flat : Result A Refusal → Receiver → Pushed) (call : SacchReceiver → Moved A) {b s after : SacchReceiver} {a : Result A Refusal} {back : Receiver} {r : Pushed}
    → b ≡ s → a ≡ (call b).answer → after ≡ (call b).receiver → back ≡ flat_receiver after → r ≡ flat a back
    → r ≡ flat (call s).answer (flat_receiver (call s).receiver)
flat_call flat call same ea em eb is =
    is ∙ ap₂ flat ea (eb ∙ ap flat_receiver em) ∙ ap (λ (x : SacchReceiver). flat (call x).answer (flat_receiver (call x).receiver)) same

lock_back : (n : ℕ) → lock_byte (lock_of n) ≡ n
unfolding lock_of
lock_back n = elim (ℕ_discrete n 255) [ yes e ↦ rw (eq-eqb n 255 e) (sym e) | no h ↦ rw (ne_eqb n 255 h) refl ]

pub same_back : (r : Receiver) → flat_receiver (receiver_of r) ≡ r
unfolding flat_receiver receiver_of
same_back r = rw (lock_back r.lock) refl
