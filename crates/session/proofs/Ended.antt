-- The session after a line. Assumes nothing.
use mathlib.Core.Path.{◌≡◌, refl, ap, ◌∙◌}
use mathlib.Core.Logic.{◌≢◌}
use mathlib.Core.List.{List, [], ◌∷◌}
use Prim.Native.Nat.{ℕ, zero, suc, ◌+◌, ◌-◌, ◌<◌, ◌≤◌}
use native.Mathlib.Omega.{arith}
use borrow.Author.Tests.{ne_eqb}
use lib.ListN.{get_or, length, set, length-set, length-replicate, replicate}
use Rattle.lines.specs.Printing.{reply_text}
use Rattle.lines.specs.declared.reply.Reply.{Reply}
use Rattle.sacch_receiver.specs.Receiver.{fresh_receiver}
use Rattle.sacch_receiver.specs.declared.SacchReceiver.{SacchReceiver}
use Rattle.session.specs.declared.totals.Tally.{Tally}
use Rattle.session.specs.Output.{fresh, next, said}
use Rattle.session.specs.Replies.{reply_to}
use Rattle.session.specs.Scanning.{Scan, end_said, ended}
use Rattle.session.specs.Totals.{added_by, counted, nothing_added, summed, OneAnswer}
use Rattle.session.specs.Sessions.{Fits, WithinBounds, at_start}

-- ---- totals stay within bounds
each_set : (l : List ℕ) (d v k m : ℕ) → get_or l k 0 ≤ m → v ≤ m → get_or (set l d v) k 0 ≤ m
each_set [] d v k m h e = h
each_set (x ∷ l) zero v zero m h e = e
each_set (x ∷ l) zero v (suc k) m h e = h
each_set (x ∷ l) (suc d) v zero m h e = h
each_set (x ∷ l) (suc d) v (suc k) m h e = each_set l d v k m h e

pub modest_more : (t a : Tally) (left d : ℕ) (counts : List ℕ) → OneAnswer a → 0 < left → WithinBounds t left counts → WithinBounds (summed t a) (left - 1) (counted counts d a.words)
unfolding summed counted
modest_more t a left d counts p h m =
    record {
      words = omega (arith, p.one, m.words);
      corrected = omega (arith, p.corrected, m.corrected);
      coded = omega (arith, p.coded, m.coded);
      codes = length-set counts d (get_or counts d 0 + a.words) ∙ m.codes;
      each = λ k. each_set counts d (get_or counts d 0 + a.words) k (t.words + a.words) (omega (arith, m.each k)) (omega (arith, m.each d));
    }

zeros : (n d : ℕ) → get_or (replicate n 0) d 0 ≤ 0
zeros zero d = omega arith
zeros (suc n) zero = omega arith
zeros (suc n) (suc d) = zeros n d

pub start_fits : {t : Tally} {line : List ℕ} → t ≡ nothing_added → line ≡ [] → Fits t 1000000 (replicate 256 0) line
unfolding nothing_added
start_fits {t} {line} z e =
    record {
      bounds = rw z (record { words = omega arith; corrected = omega arith; coded = omega arith; codes = length-replicate {A = ℕ} 256 0; each = zeros 256 });
      within = omega (arith, ap length e);
    }

pub line_fits : {t a t' : Tally} {left : ℕ} (d : ℕ) {counts line : List ℕ} → Fits t left counts line → OneAnswer a → 0 < left → t' ≡ summed t a
    → Fits t' (left - 1) (set counts d (get_or counts d 0 + a.words)) []
unfolding counted
line_fits {t} {a} {t'} {left} d {counts} {line} f one some e =
    record { bounds = rw e (modest_more t a left d counts one some f.bounds); within = omega arith }

-- ---- at the start
pub started : {r : SacchReceiver} {t : Tally} {line : List ℕ} → r ≡ fresh_receiver → t ≡ nothing_added → line ≡ []
    → record { left = 1000000; state = record { receiver = r; tally = t; counts = replicate 256 0 }; part = line } ≡ at_start
unfolding at_start fresh
started e z f = rw (e, z, f) refl

-- ---- the end of a line: none may be read, or it is answered
module _ (c : Scan) where
  pub ended_none : c.left ≡ 0 → record { left = c.left; state = c.state; part = [] } ≡ ended c
  unfolding ended
  ended_none e = rw e refl

  pub said_none : c.left ≡ 0 → [] ≡ end_said c
  unfolding end_said
  said_none e = rw e refl

  module _ {line : List ℕ} {answer : Reply} (some : c.left ≢ 0) (e : line ≡ c.part) (a : answer ≡ (reply_to c.state.receiver line).reply) where
    pub ended_some : {r : SacchReceiver} {d n : ℕ} {more t : Tally} → d ≡ (reply_to c.state.receiver line).dvcc → r ≡ (reply_to c.state.receiver line).receiver
        → more ≡ added_by answer → t ≡ summed c.state.tally more → n ≡ d
        → record { left = c.left - 1; state = record { receiver = r; tally = t; counts = set c.state.counts n (get_or c.state.counts n 0 + more.words) }; part = [] } ≡ ended c
    unfolding ended next counted
    ended_some ed er em et en = rw (ne_eqb c.left 0 some, et, em, en, ed, er, a, e) refl

    pub said_some : reply_text answer ≡ end_said c
    unfolding end_said said
    said_some = rw (ne_eqb c.left 0 some, a, e) refl
