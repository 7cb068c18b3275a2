-- With a million lines read, nothing that follows counts: a program may stop there. Assumes nothing.
use mathlib.Core.Path.{◌≡◌, refl, sym, ap, ◌∙◌}
use mathlib.Core.Bool.{Bool, true, false, cond}
use mathlib.Core.List.{List, [], ◌∷◌, ◌++◌}
use Prim.Native.Nat.{ℕ}
use lib.Dec.{eqb}
use lib.ListN.{length}
use Rattle.session.specs.Output.{State}
use Rattle.session.specs.Totals.{closing}
use Rattle.session.specs.Scanning.{Scan, ended, end_said, grown, byte_seen, byte_said, seen, bytes_said, closed, close_said}
use Rattle.session.specs.Sessions.{end_text}

-- a scan with no line left
abbrev full : State → List ℕ → Scan
full s part = record { left = 0; state = s; part = part }

byte_full : (s : State) (part : List ℕ) (b : ℕ) → (p : List ℕ) × (byte_seen (full s part) b ≡ full s p)
unfolding byte_seen ended grown
byte_full s part b = by (eqb b 10)
  where
    by : (t : Bool) → (p : List ℕ) × (cond t (ended (full s part)) (grown (full s part) b) ≡ full s p)
    by true = (_, refl)
    by false = (_, refl)

byte_silent : (s : State) (part : List ℕ) (b : ℕ) → byte_said (full s part) b ≡ []
unfolding byte_said end_said
byte_silent s part b = by (eqb b 10)
  where
    by : (t : Bool) → cond t (end_said (full s part)) [] ≡ []
    by true = refl
    by false = refl

seen_full : (more : List ℕ) (s : State) (part : List ℕ) → (p : List ℕ) × (seen (full s part) more ≡ full s p)
unfolding seen
seen_full [] s part = (part, refl)
seen_full (b ∷ more) s part =
    let q = byte_full s part b in
    let r = seen_full more s q.0 in
    (r.0, ap (λ (c : Scan). seen c more) q.1 ∙ r.1)

heard_full : (more : List ℕ) (s : State) (part : List ℕ) → bytes_said (full s part) more ≡ []
unfolding bytes_said
heard_full [] s part = refl
heard_full (b ∷ more) s part =
    let q = byte_full s part b in
    ap (λ (l : List ℕ). l ++ bytes_said (byte_seen (full s part) b) more) (byte_silent s part b) ∙ ap (λ (c : Scan). bytes_said c more) q.1 ∙ heard_full more s q.0

closed_full : (s : State) (part : List ℕ) → closed (full s part) ≡ s
unfolding closed ended
closed_full s part = by (eqb (length part) 0)
  where
    by : (t : Bool) → cond t s (ended (full s part)).state ≡ s
    by true = refl
    by false = refl

close_silent : (s : State) (part : List ℕ) → close_said (full s part) ≡ []
unfolding close_said end_said
close_silent s part = by (eqb (length part) 0)
  where
    by : (t : Bool) → cond t [] (end_said (full s part)) ≡ []
    by true = refl
    by false = refl

end_full : (s : State) (part : List ℕ) → end_text (full s part) ≡ closing s.tally s.counts
unfolding end_text
end_full s part =
    ap (λ (l : List ℕ). l ++ closing (closed (full s part)).tally (closed (full s part)).counts) (close_silent s part)
    ∙ ap (λ (x : State). closing x.tally x.counts) (closed_full s part)

pub unread : (c : Scan) (more : List ℕ) → c.left ≡ 0 → bytes_said c more ++ end_text (seen c more) ≡ end_text c
unread c more e =
    let s : State = c.state in
    let f : c ≡ full s c.part = ap (λ (n : ℕ). record { left = n; state = s; part = c.part }) e in
    let r = seen_full more s c.part in
    ap (λ (x : Scan). bytes_said x more ++ end_text (seen x more)) f
    ∙ ap (λ (l : List ℕ). l ++ end_text (seen (full s c.part) more)) (heard_full more s c.part)
    ∙ ap end_text r.1 ∙ end_full s r.0 ∙ sym (ap end_text f ∙ end_full s c.part)
