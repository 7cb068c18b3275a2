-- The turns of the program. No contract can say which bytes a read brings, so they are called here what the input buffer then holds, as many as the read
-- answered; and what is written is what is handed to a stream.
use Rattle.std.specs.Prelude.{◌≡◌, not, ◌⊎◌, List, ◌++◌, ℕ, suc, ◌+◌, ◌≤◌, eqb, length, take, Option, None}
use Rattle.std.specs.Option.{IsSomeAnd, unwrap_or}
use Rattle.session.specs.Output.{output}
use Rattle.session.specs.Scanning.{Scan, bytes_said, seen}
use Rattle.session.specs.Sessions.{at_start, end_text}
use Rattle.frames.specs.declared.Outcome.{Outcome}
use Rattle.frames.specs.declared.Turn.{Turn}
use Rattle.frames.specs.declared.streams.Next.{Next}
use Rattle.frames.specs.declared.streams.Next.TheVariants.{Read, Finish, Fail}
use Rattle.frames.specs.declared.streams.Sent.{Sent}
use Rattle.frames.specs.declared.streams.Stream.TheVariants.{Input, Output}
use Rattle.frames.specs.Streams.{FirstSent, Told, complete, failure_text, left_text, next_of}

-- ---- one turn
-- what a turn read: as many bytes of the buffer as the read answered, none where it failed
abbrev pub piece_read : Turn → List ℕ → List ℕ
piece_read t buffer = take (unwrap_or t.got.read 0) buffer

-- what was read from standard input is fed to the session, and all that `feed` wrote of it, the page, is handed to standard output
pub record Answered (c : Scan) (buffer : List ℕ) (d : Scan) (page : List ℕ) (t : Turn) : Type 0 where
  pub within : unwrap_or t.got.read 0 ≤ length buffer
  pub session : d ≡ seen c (piece_read t buffer)
  pub text : page ≡ bytes_said c (piece_read t buffer)
  pub from : t.got.from ≡ Input
  pub sent : FirstSent Output (length page) t.sent
  pub left : t.left ≡ d.left
  pub next : t.next ≡ next_of t.got.read t.sent.whole t.left

-- ---- turns one after the other
-- how many, all that they read, all that they wrote, the last one, and the session that it left: each but the last found more to read
pub data Turns : ℕ → List ℕ → List ℕ → Turn → Scan → Type 0 where
  first : {buffer page : List ℕ} {c : Scan} (t : Turn) → Answered at_start buffer c page t → Turns 1 (piece_read t buffer) (take t.sent.bytes page) t c
  more : {n : ℕ} {input written buffer page : List ℕ} {c d : Scan} {s : Turn} (t : Turn) → Turns n input written s c
      → s.next ≡ Read → Answered c buffer d page t → Turns (suc n) (input ++ piece_read t buffer) (written ++ take t.sent.bytes page) t d

-- nothing says that an input ends, so there are at most 2^64 turns; so many of them are left
pub record Turned (left : ℕ) (t : Turn) (c : Scan) : Type 0 where
  pub made : ℕ
  pub all : made + left ≡ 18446744073709551616
  pub input : List ℕ
  pub written : List ℕ
  pub turns : Turns made input written t c

-- they end where there is no more to read, or none is left
pub record Listened (t : Turn) (c : Scan) : Type 0 where
  pub left : ℕ
  pub turned : Turned left t c
  pub ends : (t.next ≡ Read → ⊥) ⊎ (left ≡ 0)

-- ---- after them
-- a last line and the totals, on the page and handed to standard output
pub record TotalsWritten (c : Scan) (page : List ℕ) (totals : Option Sent) : Type 0 where
  pub text : page ≡ end_text c
  pub sent : IsSomeAnd totals (FirstSent Output (length page))

-- with more to read, or after a failure, there are none
unfoldable pub Concluded : Next → Scan → List ℕ → Option Sent → Type 0
Concluded Read c page totals = totals ≡ None
Concluded Finish c page totals = TotalsWritten c page totals
Concluded Fail c page totals = totals ≡ None

-- ---- the run
-- THE PROGRAM: all that standard output was handed, the totals last, is the output of all that was read
unfoldable pub AllWritten : Next → List ℕ → List ℕ → List ℕ → Option Sent → Type 0
AllWritten Read input written page totals = totals ≡ None
AllWritten Finish input written page totals = IsSomeAnd totals (λ t. (t.to ≡ Output) × (written ++ take t.bytes page ≡ output input))
AllWritten Fail input written page totals = totals ≡ None

-- `page` is what the page holds at the end
pub record Ran (page : List ℕ) (r : Outcome) : Type 0 where
  pub session : Scan
  pub listened : Listened r.last session
  pub totals : AllWritten r.last.next listened.turned.input listened.turned.written page r.totals
  pub failure : Told (not (complete r.last.next r.totals)) failure_text r.failure
  pub left : Told (eqb r.last.left 0) left_text r.left
