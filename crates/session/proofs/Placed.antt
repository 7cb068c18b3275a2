-- The loop of `feed_at`: the first `from` bytes of the piece are fed, and what is written of them stands at the start of the slice. Assumes nothing.
use mathlib.Core.Path.{◌≡◌, refl, subst}
use mathlib.Core.List.{List, ◌++◌}
use Prim.Native.Nat.{ℕ, ◌+◌, ◌-◌, ◌*◌, ◌<◌, ◌≤◌}
use native.Mathlib.Omega.{arith}
use lib.ListN.{length, length-append, take, drop}
use Rattle.text.specs.Lines.{LineEnd}
use Rattle.text.specs.Writing.{Put}
use Rattle.text.proofs.Stored.{put_nothing, put_then}
use Rattle.session.specs.Scanning.{Scan, bytes_said, end_said, ended, seen}
use Rattle.session.proofs.Stepped.{Feeding, feeding_more, feeding_none, feeding_said}

pub record FeedingAt (start : Scan) (piece : List ℕ) (from : ℕ) (c : Scan) (before out : List ℕ) (at : ℕ) : Type 0 where
  pub page : List ℕ
  pub fed : Feeding start piece from c page
  pub put : Put before 0 page out at

pub feeding_at_none : (start : Scan) (piece before : List ℕ) → FeedingAt start piece 0 start before before 0
feeding_at_none start piece before = record { page = _; fed = feeding_none start piece; put = put_nothing before 0 }

module _ {start c : Scan} {piece before out : List ℕ} {from at : ℕ} (f : FeedingAt start piece from c before out at) where
  -- no more is written than 25 bytes for each byte fed
  pub feeding_at_room : (at ≤ 25 * from) × (length out ≡ length before) × (from ≤ length piece)
  feeding_at_room = (omega (arith, f.fed.room, f.put.past), f.put.kept, f.fed.low)

  module _ {end : ℕ} (e : LineEnd piece from end) where
    pub feeding_at_more : {d d' : Scan} {out' : List ℕ} {at' : ℕ} → end < length piece → d ≡ seen c (take (end - from) (drop from piece)) → d' ≡ ended d
        → Put out at (end_said d) out' at' → at' ≤ at + 25 → FeedingAt start piece (end + 1) d' before out' at'
    feeding_at_more {d} h kept done p room =
        let short : length (f.page ++ end_said d) ≤ length f.page + 25 = omega (arith, p.past, length-append f.page (end_said d)) in
        record { page = _; fed = feeding_more f.fed e h kept done refl short; put = put_then f.put p }

  pub feeding_at_said : LineEnd piece from (length piece) → Put before 0 (bytes_said start piece) out at
  feeding_at_said rest = subst (λ (l : List ℕ). Put before 0 l out at) (feeding_said f.fed rest) f.put
