-- What the reads and writes of the standard streams were given and answered, and what comes next.
use Rattle.std.specs.Prelude.{◌≡◌, Bool, true, false, cond, List, [], ◌∷◌, ℕ, ◌≤◌, eqb, length, Option, None, Some}
use Rattle.std.specs.Option.{IsSomeAnd, unwrap_or}
use Prim.Native.Char.{code}
use Prim.Native.String.{String, [] as empty, ◌∷◌ as ◌then◌}
use Rattle.frames.specs.declared.streams.Got.{Got}
use Rattle.frames.specs.declared.streams.Sent.{Sent}
use Rattle.frames.specs.declared.streams.Stream.{Stream}
use Rattle.frames.specs.declared.streams.Stream.TheVariants.{Messages}
use Rattle.frames.specs.declared.streams.Next.{Next}
use Rattle.frames.specs.declared.streams.Next.TheVariants.{Read, Finish, Fail}

-- ---- reading and writing
-- a read from a stream: as many bytes of the buffer count as it answered, none where it failed
pub record Received (stream : Stream) (buffer : List ℕ) (r : Got) : Type 0 where
  pub from : r.from ≡ stream
  pub within : unwrap_or r.read 0 ≤ length buffer

-- so many bytes of a text, from the first on, were handed to a stream
pub record FirstSent (stream : Stream) (count : ℕ) (r : Sent) : Type 0 where
  pub to : r.to ≡ stream
  pub bytes : r.bytes ≡ count

-- ---- what comes next, by what a read answered (none: it failed; 0: the end of the input), whether its answers were all written, and how many lines of the
-- million are left
unfoldable pub next_of : Option ℕ → Bool → ℕ → Next
next_of None whole left = Fail
next_of (Some n) whole left = cond whole (cond (eqb n 0) Finish (cond (eqb left 0) Finish Read)) Fail

-- the totals were handed on, and all of them were taken
abbrev pub totals_whole : Option Sent → Bool
totals_whole None = false
totals_whole (Some totals) = totals.whole

-- the input was answered to its end, and the totals were written
unfoldable pub complete : Next → Option Sent → Bool
complete Read totals = false
complete Finish totals = totals_whole totals
complete Fail totals = false

-- ---- messages
abbrev pub bytes_of : String → List ℕ
bytes_of empty = []
bytes_of (c then s) = code c ∷ bytes_of s

unfoldable pub failure_text : List ℕ
failure_text = bytes_of "frames: a read or a write failed; no totals are written\n"

unfoldable pub left_text : List ℕ
left_text = bytes_of "frames: a million lines were read; any input after them is left\n"

-- there are no others
pub data Message : List ℕ → Type 0 where
  failure : Message failure_text
  left : Message left_text

-- with a cause all of a message is handed to standard error, without one nothing
abbrev pub Told : Bool → List ℕ → Option Sent → Type 0
Told true message r = IsSomeAnd r (FirstSent Messages (length message))
Told false message r = r ≡ None
