-- The end of the input: a last line, and the closing lines. Assumes nothing.
use mathlib.Core.Path.{◌≡◌, refl, ap, ap₂, ◌∙◌}
use mathlib.Core.Bool.{true, false}
use mathlib.Core.List.{List, [], ◌++◌}
use Prim.Native.Nat.{ℕ}
use lib.Dec.{eqb}
use lib.ListN.{length}
use Rattle.session.specs.Output.{State}
use Rattle.session.specs.Totals.{closing}
use Rattle.session.specs.Scanning.{Scan, closed, close_said, ended, end_said}
use Rattle.session.specs.Sessions.{end_text}

-- the last line of a scan is written and counted: there is none, or it is ended
pub record Closed (c d : Scan) (page : List ℕ) : Type 0 where
  pub state : d.state ≡ closed c
  pub text : page ≡ close_said c

pub last_none : {c d : Scan} {page : List ℕ} → eqb (length c.part) 0 ≡ true → d ≡ c → page ≡ [] → Closed c d page
unfolding closed close_said
last_none e f g = record { state = rw (e, f) refl; text = rw e g }

pub last_some : {c d : Scan} {page : List ℕ} → eqb (length c.part) 0 ≡ false → d ≡ ended c → page ≡ end_said c → Closed c d page
unfolding closed close_said
last_some e f g = record { state = rw e (ap (λ (x : Scan). x.state) f); text = rw e g }

pub finished : {c d : Scan} {page page' : List ℕ} → Closed c d page → page' ≡ page ++ closing d.state.tally d.state.counts → page' ≡ end_text c
unfolding end_text
finished h p = p ∙ ap₂ (λ (l : List ℕ) (s : State). l ++ closing s.tally s.counts) h.text h.state
