-- However an input is cut into pieces, what `feed` writes of them one after the other, and `finish` after them, is its output. Assumes nothing.
use mathlib.Core.Path.{◌≡◌, refl, sym, ap, ap₂, ◌∙◌}
use mathlib.Core.List.{List, ◌++◌, append_assoc}
use Prim.Native.Nat.{ℕ}
use Rattle.session.specs.Output.{output}
use Rattle.session.specs.Scanning.{Scan, seen, bytes_said}
use Rattle.session.specs.Sessions.{at_start, end_text}
use Rattle.session.specs.Transcript.{FedInPieces}
use Rattle.session.specs.Transcript.FedInPieces.{started, more}
use Rattle.session.proofs.Unread.{unread}
use Rattle.session.proofs.Whole.{seen_then, bytes-said_then, whole}

-- the session is that of the input
pub pieces_seen : {input written : List ℕ} {c : Scan} → FedInPieces input written c → c ≡ seen at_start input
unfolding seen
pieces_seen started = refl
pieces_seen (more {input} piece before) = ap (λ (c : Scan). seen c piece) (pieces_seen before) ∙ sym (seen_then input piece at_start)

pub pieces_said : {input written : List ℕ} {c : Scan} → FedInPieces input written c → written ≡ bytes_said at_start input
unfolding bytes_said
pieces_said started = refl
pieces_said (more {input} piece before) =
    ap₂ (λ (a : List ℕ) (c : Scan). a ++ bytes_said c piece) (pieces_said before) (pieces_seen before) ∙ sym (bytes-said_then input piece at_start)

-- ---- THE LAW OF THE PROGRAM: all that is written, the last of it by `finish`, is the output of all that was fed
pub transcript : {input written : List ℕ} {c : Scan} → FedInPieces input written c → written ++ end_text c ≡ output input
transcript {input} fed = ap₂ (λ (a : List ℕ) (c : Scan). a ++ end_text c) (pieces_said fed) (pieces_seen fed) ∙ sym (whole input)

-- with a million lines read, a program may leave the rest: the output of the input is what it was
pub rest_unread : {input written : List ℕ} {c : Scan} → FedInPieces input written c → c.left ≡ 0 → (rest : List ℕ) → output (input ++ rest) ≡ output input
rest_unread {input} fed none rest =
    let c : Scan = seen at_start input in
    whole (input ++ rest)
    ∙ ap₂ (λ (a b : List ℕ). a ++ b) (bytes-said_then input rest at_start) (ap end_text (seen_then input rest at_start))
    ∙ append_assoc (bytes_said at_start input) (bytes_said c rest) (end_text (seen c rest))
    ∙ ap (λ (r : List ℕ). bytes_said at_start input ++ r) (unread c rest (ap (λ (x : Scan). x.left) (sym (pieces_seen fed)) ∙ none))
    ∙ sym (whole input)
