-- Turns one after the other, and the run that they come to. Assumes nothing.
use mathlib.Core.Path.{◌≡◌, refl, sym, ap, subst, ◌∙◌}
use mathlib.Core.Logic.{inl, inr}
use mathlib.Core.List.{List, ◌++◌}
use Prim.Native.Nat.{ℕ, suc, ◌+◌}
use native.Mathlib.Omega.{arith}
use lib.ListN.{length, take}
use lib.Seq.{take-length}
use Rattle.std.specs.Prelude.{Option, None, Some}
use Rattle.std.specs.Option.{IsSomeAnd}
use Rattle.session.specs.Output.{output}
use Rattle.session.specs.Scanning.{Scan, bytes_said}
use Rattle.session.specs.Sessions.{at_start, end_text}
use Rattle.session.specs.Transcript.{FedInPieces}
use Rattle.session.specs.Transcript.FedInPieces.{started, more as fed-more}
use Rattle.session.proofs.Transcript.{transcript}
use Rattle.frames.specs.declared.Turn.{Turn}
use Rattle.frames.specs.declared.streams.Next.{Next}
use Rattle.frames.specs.declared.streams.Next.TheVariants.{Read, Finish, Fail}
use Rattle.frames.specs.declared.streams.Sent.{Sent}
use Rattle.frames.specs.declared.streams.Stream.TheVariants.{Output}
use Rattle.frames.specs.Streams.{FirstSent}
use Rattle.frames.specs.Turns.{AllWritten, Answered, Concluded, Listened, Turned, Turns, piece_read}
use Rattle.frames.specs.Turns.Turns.{first, more}

-- all of a page was handed on
handed : {page : List ℕ} {s : Sent} → FirstSent Output (length page) s → take s.bytes page ≡ page
handed {page} sent = ap (λ (n : ℕ). take n page) sent.bytes ∙ take-length page

-- ---- turns feed the session in pieces
fed : {c d : Scan} {input written buffer page : List ℕ} {t : Turn} → FedInPieces input written c → Answered c buffer d page t
    → FedInPieces (input ++ piece_read t buffer) (written ++ take t.sent.bytes page) d
fed {c} {d} {input} {written} {buffer} {page} {t} f a =
    let text : bytes_said c (piece_read t buffer) ≡ take t.sent.bytes page = sym (handed a.sent ∙ a.text) in
    subst (λ (l : List ℕ). FedInPieces (input ++ piece_read t buffer) (written ++ l) d) text
    (subst (λ (s : Scan). FedInPieces (input ++ piece_read t buffer) (written ++ bytes_said c (piece_read t buffer)) s) (sym a.session) (fed-more (piece_read t buffer) f))

pub turns_fed : {n : ℕ} {input written : List ℕ} {c : Scan} {t : Turn} → Turns n input written t c → FedInPieces input written c
turns_fed (first t a) = fed started a
turns_fed (more t before on a) = fed (turns_fed before) a

pub turned_first : {s c : Scan} {buffer page : List ℕ} {t : Turn} → s ≡ at_start → Answered s buffer c page t → Turned 18446744073709551615 t c
turned_first {s} {c} {buffer} {page} {t} e a =
    record {
      made = 1;
      all = refl;
      input = _;
      written = _;
      turns = first t (subst (λ (x : Scan). Answered x buffer c page t) e a);
    }

pub turned_more : {left left' : ℕ} {buffer page : List ℕ} {c d : Scan} {s t : Turn} → Turned left s c → s.next ≡ Read → left ≡ left' + 1
    → Answered c buffer d page t → Turned left' t d
turned_more {t = t} before on e a =
    record { made = suc before.made; all = omega (arith, before.all); input = _; written = _; turns = more t before.turns on a }

pub nothing_to_read : {left : ℕ} {c : Scan} {t : Turn} → Turned left t c → (t.next ≡ Read → ⊥) → Listened t c
nothing_to_read h off = record { left = _; turned = h; ends = inl off }

pub no_turn_left : {left : ℕ} {c : Scan} {t : Turn} → Turned left t c → left ≡ 0 → Listened t c
no_turn_left h e = record { left = _; turned = h; ends = inr e }

-- ---- the run
module _ {input written : List ℕ} {c : Scan} (page : List ℕ) (f : FedInPieces input written c) where
  by_totals : (totals : Option Sent) → page ≡ end_text c → IsSomeAnd totals (FirstSent Output (length page))
      → IsSomeAnd totals (λ t. (t.to ≡ Output) × (written ++ take t.bytes page ≡ output input))
  by_totals (Some t) e s = (s.to, ap (λ (l : List ℕ). written ++ l) (handed s ∙ e) ∙ transcript f)
  by_totals None e s = s

  pub all_written : (n : Next) (totals : Option Sent) → Concluded n c page totals → AllWritten n input written page totals
  unfolding AllWritten Concluded
  all_written Read totals h = h
  all_written Finish totals h = by_totals totals h.text h.sent
  all_written Fail totals h = h
