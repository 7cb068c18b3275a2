-- Bytes of a line that are kept: at most 137 characters of it. Assumes nothing.
use mathlib.Core.Path.{◌≡◌, refl, sym, ap, subst, ◌∙◌}
use mathlib.Core.Logic.{◌≢◌}
use mathlib.Core.List.{List, [], ◌∷◌, ◌++◌, append-nil}
use Prim.Native.Nat.{ℕ, suc, ◌+◌, ◌-◌, ◌<◌, ◌≤◌, min}
use native.Mathlib.Decide.{dec_lt}
use native.Mathlib.Omega.{arith}
use borrow.Author.Tests.{ne_eqb}
use lib.ListN.{length, get_or, take, drop, length-drop}
use lib.Seq.{append_snoc, get_or-drop, get_or-take, length-take-le, take-add, take_all, take-append-add, take-suc}
use Rattle.text.specs.Lines.{LineEnd}
use Rattle.session.specs.Output.{State}
use Rattle.session.specs.Scanning.{Scan, grown, byte_seen, byte_said, seen, bytes_said}
use Rattle.session.proofs.Whole.{scan, take-grown}

-- ---- bytes with no LF among them only lengthen the line
abbrev pub Plain : List ℕ → Type 0
Plain ps = (i : ℕ) → i < length ps → get_or ps i 0 ≢ 10

pub plain_said : (ps : List ℕ) (c : Scan) → Plain ps → bytes_said c ps ≡ []
unfolding bytes_said byte_said
plain_said [] c p = refl
plain_said (b ∷ bs) c p = rw (ne_eqb b 10 (p 0 (omega arith))) (plain_said bs (byte_seen c b) (λ i h. p (suc i) (omega arith)))

module _ (k : ℕ) (s : State) where
  byte_grows : (q : List ℕ) (b : ℕ) → b ≢ 10 → byte_seen (scan k s q) b ≡ scan k s (q ++ (b ∷ []))
  unfolding byte_seen grown
  byte_grows q b n = rw (ne_eqb b 10 n) (ap (λ (p : List ℕ). record { left = k; state = s; part = p }) (take-grown 137 q b))

  plain_seen : (ps q : List ℕ) → Plain ps → seen (scan k s q) ps ≡ scan k s (q ++ ps)
  unfolding seen
  plain_seen [] q p = ap (scan k s) (sym (append-nil q))
  plain_seen (b ∷ bs) q p =
      ap (λ (c : Scan). seen c bs) (byte_grows q b (p 0 (omega arith)))
      ∙ plain_seen bs (q ++ (b ∷ [])) (λ i h. p (suc i) (omega arith)) ∙ ap (scan k s) (append_snoc q b bs)

-- ---- as many of them are kept as there is room for
room_taken : (ps : List ℕ) (n m : ℕ) → n ≡ min (length ps) m → take n ps ≡ take m ps
room_taken ps n m e = elim (dec_lt (length ps) m)
    [ yes h ↦ take_all n ps (omega arith) ∙ sym (take_all m ps (omega arith)) | no h ↦ let z : n ≡ m = omega arith in ap (λ (k : ℕ). take k ps) z ]

pub kept_seen : (c : Scan) (ps : List ℕ) (n : ℕ) → length c.part ≤ 137 → n ≡ min (length ps) (137 - length c.part) → Plain ps
    → record { left = c.left; state = c.state; part = c.part ++ take n ps } ≡ seen c ps
kept_seen c ps n short e plain =
    let q : List ℕ = c.part in
    let with : List ℕ → Scan = λ l. record { left = c.left; state = c.state; part = l } in
    let split : length q + (137 - length q) ≡ 137 = omega arith in
    let cut : q ++ take n ps ≡ take 137 (q ++ ps) =
    ap (λ (l : List ℕ). q ++ l) (room_taken ps n (137 - length q) e) ∙ sym (take-append-add q ps (137 - length q))
    ∙ ap (λ (m : ℕ). take m (q ++ ps)) split in
    ap with cut ∙ sym (ap (λ (l : List ℕ). seen (with l) ps) (sym (take_all 137 q short)) ∙ plain_seen c.left c.state ps q plain)

-- ---- a part of a piece
-- the bytes from `from` up to `end`, and the LF there
abbrev part_of : List ℕ → ℕ → ℕ → List ℕ
part_of piece from end = take (end + 1 - from) (drop from piece)

module _ {piece : List ℕ} {from end : ℕ} (e : LineEnd piece from end) where
  abbrev inner : List ℕ
  inner = take (end - from) (drop from piece)

  inner_length : length inner ≡ end - from
  inner_length = length-take-le (end - from) (drop from piece) (subst (λ (n : ℕ). end - from ≤ n) (sym (length-drop from piece)) (omega (arith, e.high)))

  pub inner_plain : Plain inner
  inner_plain i h =
      let b : i < end - from = omega (arith, inner_length) in
      λ z. e.inside (from + i) (omega arith) (omega arith) (sym (get_or-take (end - from) (drop from piece) i 0 b ∙ get_or-drop from piece i 0) ∙ z)

  -- with its LF
  pub part_ended : end < length piece → part_of piece from end ≡ inner ++ (10 ∷ [])
  part_ended h =
      let low : from ≤ end = e.low in
      let n : end + 1 - from ≡ suc (end - from) = omega arith in
      let room : end - from < length (drop from piece) = subst (λ (m : ℕ). end - from < m) (sym (length-drop from piece)) (omega arith) in
      let here : from + (end - from) ≡ end = omega arith in
      ap (λ (m : ℕ). take m (drop from piece)) n ∙ take-suc (drop from piece) (end - from) 0 room
      ∙ ap (λ (x : ℕ). inner ++ (x ∷ [])) (get_or-drop from piece (end - from) 0 ∙ ap (λ (m : ℕ). get_or piece m 0) here ∙ e.stops h)

  -- at the end of the piece, without
  pub part_open : length piece ≤ end → part_of piece from end ≡ inner
  part_open h =
      let short : length (drop from piece) ≤ end - from = subst (λ (m : ℕ). m ≤ end - from) (sym (length-drop from piece)) (omega arith) in
      let shorter : length (drop from piece) ≤ end + 1 - from = subst (λ (m : ℕ). m ≤ end + 1 - from) (sym (length-drop from piece)) (omega arith) in
      take_all (end + 1 - from) (drop from piece) shorter ∙ sym (take_all (end - from) (drop from piece) short)

  -- the piece up to the next part
  pub part_then : take (end + 1) piece ≡ take from piece ++ part_of piece from end
  part_then =
      let n : end + 1 ≡ from + (end + 1 - from) = omega (arith, e.low) in
      ap (λ (m : ℕ). take m piece) n ∙ take-add from (end + 1 - from) piece
