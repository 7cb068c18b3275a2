-- Ranges of places: the loops that take the ranges of a list, and that put bits into them. Assumes nothing.
use mathlib.Core.Path.{◌≡◌, sym, ap, ap₂, ◌∙◌}
use mathlib.Core.List.{List, [], ◌∷◌, ◌++◌, append_assoc, append-nil}
use Prim.Native.Nat.{ℕ, ◌+◌, ◌-◌, ◌<◌, ◌≤◌}
use native.Mathlib.Omega.{arith}
use native.Mathlib.Numerals.{add-one}
use lib.ListN.{length, get_or, take, drop, length-drop}
use lib.Seq.{paste, length-paste, take-paste, drop-drop, drop-length, drop-cons, take_all, take-take, length-take-le}
use borrow.Rule.Slice.PartMut.{put_mid}
use Rattle.std.proofs.lemmas.Slice.{put_mid-paste}
use Rattle.std.specs.declared.ops.Range.{Range}
use Rattle.speech.specs.Ranges.{Bounds, total_of, ranges_of, put_ranges}

-- the range that stands for one past the end
abbrev pub none : Range ℕ
none = record { start = 0; end = 0 }

-- the places of the k-th range
abbrev pub long_of : List (Range ℕ) → ℕ → ℕ
long_of ranges k = (get_or ranges k none).end - (get_or ranges k none).start

-- n elements of a list, copied over those of another from a place on
pub copied : (list source : List ℕ) (at n : ℕ) {part : List ℕ} {m k : ℕ} → m ≡ n → k ≡ n → n ≤ length source → part ≡ take k source → put_mid at m list part ≡ paste list at source n
copied list source at n em ek h e =
    put_mid-paste at _ list _ (take n source) n (e ∙ ap (λ (j : ℕ). take j source) ek) (sym em) (sym (length-take-le n source h))
    ∙ ap (λ (l : List ℕ). take at list ++ l ++ drop (at + n) list) (take-take n n source (omega arith))

-- ---- the k-th range
module _ (ranges : List (Range ℕ)) (k : ℕ) (h : k < length ranges) where
  here : drop k ranges ≡ get_or ranges k none ∷ drop (k + 1) ranges
  here = drop-cons ranges k none h ∙ ap (λ (m : ℕ). get_or ranges k none ∷ drop m ranges) (sym (add-one k))

  total_here : total_of (drop k ranges) ≡ long_of ranges k + total_of (drop (k + 1) ranges)
  unfolding total_of
  total_here = ap total_of here

  ranges_here : (l : List ℕ) → ranges_of (drop k ranges) l
      ≡ take (long_of ranges k) (drop (get_or ranges k none).start l) ++ ranges_of (drop (k + 1) ranges) l
  unfolding ranges_of
  ranges_here l = ap (λ (d : List (Range ℕ)). ranges_of d l) here

  put_here : (bits l : List ℕ) → put_ranges (drop k ranges) bits l
      ≡ put_ranges (drop (k + 1) ranges) (drop (long_of ranges k) bits) (paste l (get_or ranges k none).start bits (long_of ranges k))
  unfolding put_ranges
  put_here bits l = ap (λ (d : List (Range ℕ)). put_ranges d bits l) here

  pub run_within : {n : ℕ} → Bounds ranges n → (get_or ranges k none).start + long_of ranges k ≤ n
  run_within b = omega (arith, b k none h)

-- no range is left
past : (ranges : List (Range ℕ)) (k : ℕ) → k ≤ length ranges → length ranges ≤ k → drop k ranges ≡ []
past ranges k h l = let e : k ≡ length ranges = omega arith in ap (λ (m : ℕ). drop m ranges) e ∙ drop-length ranges

-- ---- the ranges of a list: k of them are taken, at places
pub record Taking (ranges : List (Range ℕ)) (list out : List ℕ) (at k : ℕ) : Type 0 where
  pub low : k ≤ length ranges
  pub size : length out ≡ total_of ranges
  pub left : at + total_of (drop k ranges) ≡ total_of ranges
  pub rest : take at out ++ ranges_of (drop k ranges) list ≡ ranges_of ranges list

module _ {ranges : List (Range ℕ)} {list out : List ℕ} {at k : ℕ} (t : Taking ranges list out at k) (b : Bounds ranges (length list)) where
  pub taking_room : k < length ranges → at + long_of ranges k ≤ length out
  taking_room h = omega (arith, t.size, t.left, total_here ranges k h)

  pub taking_more : {out' : List ℕ} {n : ℕ} → k < length ranges → n ≡ long_of ranges k
      → out' ≡ paste out at (drop (get_or ranges k none).start list) n → Taking ranges list out' (at + n) (k + 1)
  taking_more {out'} {n} h en e =
      let a : ℕ = (get_or ranges k none).start in
      let room : at + n ≤ length out = omega (arith, taking_room h) in
      let read : n ≤ length (drop a list) = omega (arith, length-drop a list, run_within ranges k h b) in
      record {
        low = omega arith;
        size = ap length e ∙ length-paste out at (drop a list) n room read ∙ t.size;
        left = omega (arith, t.left, total_here ranges k h);
        rest =
            ap (λ (l : List ℕ). take (at + n) l ++ ranges_of (drop (k + 1) ranges) list) e
            ∙ ap (λ (l : List ℕ). l ++ ranges_of (drop (k + 1) ranges) list) (take-paste out at (drop a list) n (omega arith) read)
            ∙ append_assoc (take at out) (take n (drop a list)) (ranges_of (drop (k + 1) ranges) list)
            ∙ ap (λ (l : List ℕ). take at out ++ l)
            (ap (λ (m : ℕ). take m (drop a list) ++ ranges_of (drop (k + 1) ranges) list) en ∙ sym (ranges_here ranges k h list))
            ∙ t.rest;
      }

  pub taking_done : length ranges ≤ k → out ≡ ranges_of ranges list
  unfolding ranges_of total_of
  taking_done h =
      let none_left : drop k ranges ≡ [] = past ranges k t.low h in
      let all : length out ≤ at = omega (arith, t.left, ap total_of none_left, t.size) in
      sym (take_all at out all) ∙ sym (append-nil (take at out)) ∙ ap (λ (d : List (Range ℕ)). take at out ++ ranges_of d list) (sym none_left) ∙ t.rest

-- ---- bits put into the ranges of a list: into k of them
pub record Putting (ranges : List (Range ℕ)) (bits list₀ list : List ℕ) (at k : ℕ) : Type 0 where
  pub low : k ≤ length ranges
  pub size : length list ≡ length list₀
  pub left : at + total_of (drop k ranges) ≡ total_of ranges
  pub rest : put_ranges (drop k ranges) (drop at bits) list ≡ put_ranges ranges bits list₀

module _ {ranges : List (Range ℕ)} {bits list₀ list : List ℕ} {at k : ℕ} (t : Putting ranges bits list₀ list at k) (b : Bounds ranges (length list₀)) where
  pub putting_read : k < length ranges → length bits ≡ total_of ranges → at + long_of ranges k ≤ length bits
  putting_read h e = omega (arith, t.left, total_here ranges k h)

  putting_room : k < length ranges → (get_or ranges k none).start + long_of ranges k ≤ length list
  putting_room h = omega (arith, t.size, run_within ranges k h b)

  pub putting_more : {list' : List ℕ} {n : ℕ} → k < length ranges → length bits ≡ total_of ranges → n ≡ long_of ranges k
      → list' ≡ paste list (get_or ranges k none).start (drop at bits) n → Putting ranges bits list₀ list' (at + n) (k + 1)
  putting_more {list'} {n} h whole en e =
      let a : ℕ = (get_or ranges k none).start in
      let read : n ≤ length (drop at bits) = omega (arith, length-drop at bits, putting_read h whole) in
      record {
        low = omega arith;
        size = ap length e ∙ length-paste list a (drop at bits) n (omega (arith, putting_room h)) read ∙ t.size;
        left = omega (arith, t.left, total_here ranges k h);
        rest =
            ap₂ (λ (u l : List ℕ). put_ranges (drop (k + 1) ranges) u l) (sym (drop-drop n at bits)) e
            ∙ ap (λ (m : ℕ). put_ranges (drop (k + 1) ranges) (drop m (drop at bits)) (paste list a (drop at bits) m)) en
            ∙ sym (put_here ranges k h (drop at bits) list) ∙ t.rest;
      }

  pub putting_done : length ranges ≤ k → list ≡ put_ranges ranges bits list₀
  unfolding put_ranges
  putting_done h = ap (λ (d : List (Range ℕ)). put_ranges d (drop at bits) list) (sym (past ranges k t.low h)) ∙ t.rest
