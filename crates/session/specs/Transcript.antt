-- An input fed piece by piece, from the start.
use Rattle.std.specs.Prelude.{List, [], ◌++◌, ℕ}
use Rattle.session.specs.Scanning.{Scan, bytes_said, seen}
use Rattle.session.specs.Sessions.{at_start}

-- Calls of `feed` one after the other, the first on what `new` gives, each other on what the call before it left: all that was fed, all that the pages then
-- held, and the session that they leave.
pub data FedInPieces : List ℕ → List ℕ → Scan → Type 0 where
  started : FedInPieces [] [] at_start
  more : {input written : List ℕ} {c : Scan} (piece : List ℕ) → FedInPieces input written c
      → FedInPieces (input ++ piece) (written ++ bytes_said c piece) (seen c piece)
