-- The ends of a decoding: what `finish` is asked, and what each way out answers. Assumes nothing.
use mathlib.Core.Path.{◌≡◌, sym, ap, ap₂, ◌∙◌}
use mathlib.Core.Bool.{Bool, true, false, false≢true}
use mathlib.Core.List.{List}
use Prim.Native.Nat.{ℕ, ◌<◌, ◌≤◌}
use native.Mathlib.Omega.{arith}
use Rattle.bits.specs.Bits.{bits}
use Rattle.bits.specs.Observed.{observed_count}
use Rattle.std.specs.Prelude.{Result, Err}
use Rattle.bits.specs.declared.Refusal.{Refusal}
use Rattle.bits.specs.declared.Refusal.TheVariants as refusal
use Rattle.bits.proofs.Binary.{bits-bytes}
use Rattle.trellis.specs.declared.Outcome.{Outcome}
use Rattle.trellis.proofs.Decided.{decided_alone, decided_shared}
use Rattle.facch.specs.declared.FacchWord.{FacchWord}
use Rattle.facch.specs.Decoding.{finished, decode_of}
use Rattle.facch.specs.Search.{weight, Searched}
use Rattle.facch.proofs.Meaning.{too_few, facch-decided}

module _ (received : List ℕ) (dvcc observed : ℕ) (eo : observed ≡ observed_count received) where
  pub scarce_end : observed < 65 → Err refusal.InsufficientObservations ≡ decode_of received dvcc
  scarce_end h = sym (too_few received dvcc (omega arith))

  module _ (many : 65 ≤ observed) {word : List ℕ} {r : Outcome} (s : Searched received word r) where
    pub tied_end : r.tie ≡ true → Err refusal.Ambiguous ≡ decode_of received dvcc
    tied_end t = sym (decided_shared (facch-decided received dvcc (omega arith)) (s.tied t))

    pub alone_end : {answer : Result FacchWord Refusal} → r.tie ≡ false → answer ≡ finished (bits word) r.metric observed dvcc → answer ≡ decode_of received dvcc
    alone_end t e =
        e ∙ ap₂ (λ (w : List Bool) (n : ℕ). finished w n observed dvcc) (ap bits s.written ∙ bits-bytes s.bits) s.metric
        ∙ ap (λ (n : ℕ). finished s.bits (weight received s.bits) n dvcc) eo
        ∙ sym (decided_alone (facch-decided received dvcc (omega arith)) s.nearest (λ a. false≢true (sym t ∙ s.alone a)))
