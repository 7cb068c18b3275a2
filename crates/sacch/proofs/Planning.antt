-- The listening rule in a planner's terms: 42 fields for a word, and eleven for each word more. Assumes nothing.
use mathlib.Core.Path.{◌≡◌, ◌∙◌, ap}
use mathlib.Core.List.{List}
use Prim.Native.Nat.{ℕ, zero, suc, ◌+◌, ◌-◌, ◌*◌, ◌/◌, ◌≤◌, ◌<◌}
use native.Mathlib.Omega.{arith}
use lib.ListN.{length}
use Rattle.std.specs.Prelude.{Ok}
use Rattle.sacch_receiver.specs.declared.ReceiveOutcome.TheVariants as outcome
use Rattle.sacch_encoder.specs.declared.SacchEncoder.{SacchEncoder}
use Rattle.sacch_decoder.specs.declared.SacchWord.{SacchWord}
use Rattle.sacch_receiver.specs.declared.SacchReceiver.{SacchReceiver}
use Rattle.sacch.specs.Calls.{Given, Push}
use Rattle.sacch.specs.Listening.{word_sent, Begins, answer, Promised}

module _ {dvcc a N : ℕ} {e : SacchEncoder} {given : List Given} {r : SacchReceiver} {pushes : List Push} (promise : Promised dvcc a e given r pushes N) where
  -- field n gives the word of index j (from 0)
  abbrev pub Gives : ℕ → ℕ → Type 0
  Gives n j = (j < length given) × (answer r pushes n ≡ Ok (outcome.Word (word_sent dvcc e given j)))

  next-after : (f : ℕ) → 22 ≤ f → f ≤ N → (w : SacchWord) → answer r pushes f ≡ Ok (outcome.Word w) → (k : ℕ) → f + 11 * k ≤ N
      → Gives (f + 11 * k) ((a + f - 22) / 11 + k)
  next-after f h l w o zero hl =
      let s = promise.only_sent f h l w o in
      let here : f + 11 * 0 ≡ f = omega arith in
      let same : (a + f - 22) / 11 + 0 ≡ (a + f - 22) / 11 = omega arith in
      rw (here, same) (s.1, o ∙ ap (λ (x : SacchWord). Ok (outcome.Word x)) s.2)
  next-after f h l w o (suc k) hl =
      let begins : Begins (a + f - 22) = (promise.only_sent f h l w o).0 in
      let same : (a + (f + 11 * suc k) - 22) / 11 ≡ (a + f - 22) / 11 + suc k = omega arith in
      rw (← same) ((promise.follows f h l w o (11 * suc k) (omega arith) hl).0 (omega arith))

  -- one of the fields 22 to 42 gives a word, and each eleventh after it the word given next
  pub next_words : 42 ≤ N → (f : ℕ) × (22 ≤ f) × (f ≤ 42) × ((k : ℕ) → f + 11 * k ≤ N → Gives (f + 11 * k) ((a + f - 22) / 11 + k))
  next_words h =
      let s = promise.by_42 h in
      let top : s.0 ≤ 42 = s.2 in
      (s.0, s.1, s.2, next-after s.0 s.1 (omega arith) s.3.0 s.3.1)
