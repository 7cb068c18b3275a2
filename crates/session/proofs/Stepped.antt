-- The loop of `feed`: the first `from` bytes of the piece are fed. Assumes nothing.
use mathlib.Core.Path.{◌≡◌, refl, sym, ap, ap₂, ◌∙◌}
use mathlib.Core.List.{List, [], ◌∷◌, ◌++◌, append-nil}
use Prim.Native.Nat.{ℕ, ◌+◌, ◌-◌, ◌*◌, ◌<◌, ◌≤◌}
use native.Mathlib.Omega.{arith}
use lib.ListN.{length, take, drop}
use lib.Seq.{take_all}
use Rattle.text.specs.Lines.{LineEnd}
use Rattle.session.specs.Scanning.{Scan, ended, end_said, byte_seen, byte_said, seen, bytes_said}
use Rattle.session.proofs.Whole.{seen_then, bytes-said_then}
use Rattle.session.proofs.Gathered.{inner_plain, part_ended, part_open, part_then, plain_said}

lf_seen : (c : Scan) → seen c (10 ∷ []) ≡ ended c
unfolding seen byte_seen
lf_seen c = refl

lf_said : (c : Scan) → bytes_said c (10 ∷ []) ≡ end_said c
unfolding bytes_said byte_said
lf_said c = append-nil (end_said c)

pub record Feeding (start : Scan) (piece : List ℕ) (from : ℕ) (c : Scan) (page : List ℕ) : Type 0 where
  pub low : from ≤ length piece
  pub session : c ≡ seen start (take from piece)
  pub text : page ≡ bytes_said start (take from piece)
  pub room : length page ≤ 25 * from

pub feeding_none : (start : Scan) (piece : List ℕ) → Feeding start piece 0 start []
unfolding seen bytes_said
feeding_none start piece = record { low = omega arith; session = refl; text = refl; room = omega arith }

module _ {start c : Scan} {piece page : List ℕ} {from : ℕ} (f : Feeding start piece from c page) where
  module _ {end : ℕ} (e : LineEnd piece from end) where
    abbrev inner : List ℕ
    inner = take (end - from) (drop from piece)

    -- a line that ends in the piece
    pub feeding_more : {d d' : Scan} {page' : List ℕ} → end < length piece → d ≡ seen c inner → d' ≡ ended d → page' ≡ page ++ end_said d
        → length page' ≤ length page + 25 → Feeding start piece (end + 1) d' page'
    feeding_more {d} {d'} {page'} h kept done q room =
        let low : from ≤ end = e.low in
        let whole : take (end + 1) piece ≡ take from piece ++ (inner ++ (10 ∷ [])) =
        part_then e ∙ ap (λ (l : List ℕ). take from piece ++ l) (part_ended e h) in
        record {
          low = omega arith;
          session =
              done
              ∙ sym (ap (seen start) whole ∙ seen_then (take from piece) (inner ++ (10 ∷ [])) start
              ∙ ap (λ (x : Scan). seen x (inner ++ (10 ∷ []))) (sym f.session) ∙ seen_then inner (10 ∷ []) c
              ∙ ap (λ (x : Scan). seen x (10 ∷ [])) (sym kept) ∙ lf_seen d);
          text =
              q ∙ ap (λ (l : List ℕ). l ++ end_said d) f.text
              ∙ sym (ap (bytes_said start) whole ∙ bytes-said_then (take from piece) (inner ++ (10 ∷ [])) start
              ∙ ap (λ (x : Scan). bytes_said start (take from piece) ++ bytes_said x (inner ++ (10 ∷ []))) (sym f.session)
              ∙ ap (λ (l : List ℕ). bytes_said start (take from piece) ++ l)
              (bytes-said_then inner (10 ∷ []) c ∙ ap₂ (λ (l : List ℕ) (x : Scan). l ++ bytes_said x (10 ∷ [])) (plain_said inner c (inner_plain e)) (sym kept) ∙ lf_said d));
          room = omega (arith, f.room);
        }

  -- no other line ends in it
  module _ (e : LineEnd piece from (length piece)) where
    abbrev last : List ℕ
    last = take (length piece - from) (drop from piece)

    whole : piece ≡ take from piece ++ last
    whole = sym (take_all (length piece + 1) piece (omega arith)) ∙ part_then e ∙ ap (λ (l : List ℕ). take from piece ++ l) (part_open e (omega arith))

    pub feeding_done : {d : Scan} → d ≡ seen c last → d ≡ seen start piece
    feeding_done kept =
        kept ∙ ap (λ (x : Scan). seen x last) f.session ∙ sym (ap (seen start) whole ∙ seen_then (take from piece) last start)

    pub feeding_said : page ≡ bytes_said start piece
    feeding_said =
        f.text ∙ sym (append-nil (bytes_said start (take from piece)))
        ∙ sym (ap (bytes_said start) whole ∙ bytes-said_then (take from piece) last start
        ∙ ap (λ (l : List ℕ). bytes_said start (take from piece) ++ l) (plain_said last (seen start (take from piece)) (inner_plain e)))
