-- The search with a free start and a free end: a word's metric is the least over its starts. Assumes nothing.
use mathlib.Core.Path.{◌≡◌, refl, sym, ap, subst, ◌∙◌}
use mathlib.Core.Bool.{Bool, true, false, cond}
use mathlib.Core.List.{List, ◌++◌, append_cancel_left}
use mathlib.Core.Logic.{◌⊎◌, inl, inr}
use Prim.Native.Nat.{ℕ, zero, suc, ◌+◌, ◌-◌, ◌<◌, ◌≤◌}
use native.Mathlib.Omega.{arith}
use native.Mathlib.Decide.{ℕ_discrete}
use lib.ListN.{length, take}
use lib.Seq.{take_at, take-append-add}
use lib.Dec.{ltb}
use native.Mathlib.Nat.{le_refl}
use borrow.Author.Tests.{ltb-true, ltb-false}
use Rattle.trellis.specs.Numbering.{Numbering}
use Rattle.trellis.specs.Search.{Nearest, Ambiguous}
use Rattle.trellis.specs.Words.{Leads, OfLength, word_metric, free_metric, least_up_to, state_after}
use Rattle.trellis.specs.Trellis.{Trellis, wholes, DifferAfter, TiedPaths, origin, path_metric, state_metric, survivor, tie, word}
use Rattle.trellis.proofs.Registers.{Register}
use Rattle.trellis.proofs.Order.{dec_differ, same_newer, differ_newer}
use Rattle.trellis.proofs.Searching.{nearest_same}
use Rattle.trellis.proofs.PathWord as path
use Rattle.trellis.proofs.Optimal as opt

-- ---- the least of several numbers
pub least_le : (n : ℕ) (f : ℕ → ℕ) (k : ℕ) → k ≤ n → least_up_to n f ≤ f k
unfolding least_up_to
least_le zero f k h = let e : 0 ≡ k = omega arith in subst (λ (i : ℕ). f 0 ≤ f i) e (le_refl _)
least_le (suc n) f k h = go (ltb (f (suc n)) (least_up_to n f)) refl (ℕ_discrete k (suc n)) (least_le n f k)
  where
    go : (d : Bool) → ltb (f (suc n)) (least_up_to n f) ≡ d → Dec (k ≡ suc n) → (k ≤ n → least_up_to n f ≤ f k) → cond d (f (suc n)) (least_up_to n f) ≤ f k
    go true d (yes e) ih = subst (λ (i : ℕ). f (suc n) ≤ f i) (sym e) (le_refl _)
    go true d (no e) ih = omega (arith, ltb-true (f (suc n)) (least_up_to n f) d, ih (omega arith))
    go false d (yes e) ih = subst (λ (i : ℕ). least_up_to n f ≤ f i) (sym e) (ltb-false (f (suc n)) (least_up_to n f) d)
    go false d (no e) ih = ih (omega arith)

pub least_at : (n : ℕ) (f : ℕ → ℕ) → (k : ℕ) × (k ≤ n) × (least_up_to n f ≡ f k)
unfolding least_up_to
least_at zero f = (0, omega arith, refl)
least_at (suc n) f = go (ltb (f (suc n)) (least_up_to n f)) (least_at n f)
  where
    go : (d : Bool) → (k : ℕ) × (k ≤ n) × (least_up_to n f ≡ f k) → (k : ℕ) × (k ≤ suc n) × (cond d (f (suc n)) (least_up_to n f) ≡ f k)
    go true p = (suc n, le_refl _, refl)
    go false p = (p.0, omega (arith, p.1), p.2)

-- where every value of f is one of g's, g's least is no greater
least_above : (n : ℕ) (f g : ℕ → ℕ) → ((k : ℕ) → k ≤ n → (j : ℕ) × (j ≤ n) × (g j ≡ f k)) → least_up_to n g ≤ least_up_to n f
least_above n f g t =
    let p : (k : ℕ) × (k ≤ n) × (least_up_to n f ≡ f k) = least_at n f in
    let q : (j : ℕ) × (j ≤ n) × (g j ≡ f p.0) = t p.0 p.1 in
    omega (arith, p.2, q.2, least_le n g q.0 q.1)

-- the least does not depend on the order
pub least_same : (n : ℕ) (f g : ℕ → ℕ) → ((k : ℕ) → k ≤ n → (j : ℕ) × (j ≤ n) × (g j ≡ f k)) → ((k : ℕ) → k ≤ n → (j : ℕ) × (j ≤ n) × (f j ≡ g k))
    → least_up_to n f ≡ least_up_to n g
least_same n f g t u = omega (arith, least_above n f g t, least_above n g f u)

module _ (N : Numbering) (reg : Register N) where
  -- the word of a path is the state's five inputs and all but the oldest five choices
  word-take : (t n : ℕ) (c : List Bool) → t < 32 → length c ≡ n → 5 ≤ n → word N t c ≡ N.memory t ++ take (n - 5) c
  word-take t n c ht l h =
      let e : n ≡ length (N.memory t) + (n - 5) = omega (arith, reg.five t) in
      sym (take_at (word N t c) (N.memory (origin N t c)) n (path.word-length N t c ∙ l))
      ∙ ap (take n) (sym (path.memory_word N reg t c ht))
      ∙ ap (λ (m : ℕ). take m (N.memory t ++ c)) e
      ∙ take-append-add (N.memory t) c (n - 5)

  -- two paths into t have one word exactly where they don't differ after the first five choices
  module _ (t n : ℕ) (c d : List Bool) (ht : t < 32) (lc : length c ≡ n) (ld : length d ≡ n) (h : 5 ≤ n) where
    differ_words : DifferAfter 5 c d → word N t c ≡ word N t d → ⊥
    differ_words a e =
        differ_newer 5 c d (lc ∙ sym ld) a
        (ap (λ (k : ℕ). take (k - 5) c) lc
        ∙ append_cancel_left (N.memory t) (take (n - 5) c) (take (n - 5) d) (sym (word-take t n c ht lc h) ∙ e ∙ word-take t n d ht ld h)
        ∙ ap (λ (k : ℕ). take (k - 5) d) (sym lc))

    words_differ : (word N t c ≡ word N t d → ⊥) → DifferAfter 5 c d
    words_differ ne = go (dec_differ 5 c d)
      where
        go : Dec (DifferAfter 5 c d) → DifferAfter 5 c d
        go (yes a) = a
        go (no a) = absurd (ne (word-take t n c ht lc h
            ∙ ap (λ (l : List Bool). N.memory t ++ l) (ap (λ (k : ℕ). take (k - 5) c) (sym lc) ∙ same_newer 5 c d (lc ∙ sym ld) a ∙ ap (λ (k : ℕ). take (k - 5) d) lc)
            ∙ sym (word-take t n d ht ld h)))

-- m is the least metric of an end, that of t
module _ (N : Numbering) (reg : Register N) (branch : ℕ → ℕ → Bool → ℕ) (start : ℕ → ℕ) (free : (s : ℕ) → s < 32 → start s ≡ 0) (n : ℕ) (h5 : 5 ≤ n) (m t : ℕ) (ht : t < 32)
    (em : state_metric wholes (record { numbering = N; branch = branch; start = start }) n t ≡ m)
    (lm : (r : ℕ) → r < 32 → m ≤ state_metric wholes (record { numbering = N; branch = branch; start = start }) n r) where
  abbrev X : Trellis ℕ
  X = record { numbering = N; branch = branch; start = start }

  least_word : (s r : ℕ) (u : List Bool) → s < 32 → r < 32 → Leads N s r n u → m ≤ word_metric N branch s u
  least_word s r u hs hr l = omega (arith, lm r hr, path.metric_least N reg branch start s r n u hs hr l, free s hs)

  from_any : (s : ℕ) (u : List Bool) → s < 32 → length u ≡ n → m ≤ word_metric N branch s u
  from_any s u hs l = least_word s (state_after N s u) u hs (path.state_below N reg s u hs) (record { steps = l; ends = refl })

  -- a word's metric is that of one of its starts
  metric_from : (u : List Bool) → (s : ℕ) × (s < 32) × (free_metric N branch u ≡ word_metric N branch s u)
  unfolding free_metric
  metric_from u = let p : (s : ℕ) × (s ≤ 31) × (least_up_to 31 (λ s. word_metric N branch s u) ≡ word_metric N branch s u) = least_at 31 (λ s. word_metric N branch s u) in (p.0, omega (arith, p.1), p.2)

  metric_below : (u : List Bool) (s : ℕ) → s < 32 → free_metric N branch u ≤ word_metric N branch s u
  unfolding free_metric
  metric_below u s h = least_le 31 (λ s. word_metric N branch s u) s (omega arith)

  metric_above : (u : List Bool) → length u ≡ n → m ≤ free_metric N branch u
  metric_above u l =
      let p : (s : ℕ) × (s < 32) × (free_metric N branch u ≡ word_metric N branch s u) = metric_from u in
      omega (arith, from_any p.0 u p.1 l, p.2)

  -- a path of the least metric has a nearest word
  path_metric_lem : (r : ℕ) (c : List Bool) → r < 32 → length c ≡ n → path_metric X r c ≡ m → free_metric N branch (word N r c) ≡ m
  path_metric_lem r c hr l e =
      let o : ℕ = origin N r c in
      let ho : o < 32 = path.origin_below N reg r c hr in
      omega (arith, metric_below (word N r c) o ho, path.metric_word N reg branch start r c hr, free o ho, e, metric_above (word N r c) (path.word-length N r c ∙ l))

  path_nearest : (r : ℕ) (c : List Bool) → r < 32 → length c ≡ n → path_metric X r c ≡ m → Nearest (OfLength n) (free_metric N branch) (word N r c)
  path_nearest r c hr l e = record { word = path.word-length N r c ∙ l; least = λ u h. omega (arith, path_metric_lem r c hr l e, metric_above u h) }

  pub survivor_metric : free_metric N branch (word N t (survivor wholes X n t)) ≡ m
  survivor_metric = path_metric_lem t (survivor wholes X n t) ht (opt.survivor-length X n t) (opt.survivor_cost X n t ∙ em)

  pub survivor_nearest : Nearest (OfLength n) (free_metric N branch) (word N t (survivor wholes X n t))
  survivor_nearest = path_nearest t (survivor wholes X n t) ht (opt.survivor-length X n t) (opt.survivor_cost X n t ∙ em)

  -- a tie in t: two distinct words into t
  pub tie_ambiguous : tie X 5 n t ≡ true → Ambiguous (OfLength n) (free_metric N branch)
  tie_ambiguous f =
      let r : TiedPaths X 5 n t = opt.tie_sound X 5 n t f in
      record {
        one = word N t r.one;
        other = word N t r.other;
        one_nearest = path_nearest t r.one ht r.one_length (r.one_least ∙ em);
        other_nearest = path_nearest t r.other ht r.other_length (r.other_least ∙ em);
        distinct = differ_words N reg t n r.one r.other ht r.one_length r.other_length h5 r.distinct;
      }

  -- another end with the least metric: two distinct words
  pub ends_ambiguous : (r : ℕ) → r < 32 → state_metric wholes X n r ≡ m → (r ≡ t → ⊥) → Ambiguous (OfLength n) (free_metric N branch)
  ends_ambiguous r hr er ne =
      let ct : List Bool = survivor wholes X n t in
      let cr : List Bool = survivor wholes X n r in
      let lt : length ct ≡ n = opt.survivor-length X n t in
      let lr : length cr ≡ n = opt.survivor-length X n r in
      record {
        one = word N t ct;
        other = word N r cr;
        one_nearest = survivor_nearest;
        other_nearest = path_nearest r cr hr lr (opt.survivor_cost X n r ∙ er);
        distinct = λ e. ne (sym (reg.memory_one t r ht hr
            (sym (take_at (N.memory t) (take (n - 5) ct) 5 (reg.five t)) ∙ ap (take 5) (sym (word-take N reg t n ct ht lt h5) ∙ e ∙ word-take N reg r n cr hr lr h5)
            ∙ take_at (N.memory r) (take (n - 5) cr) 5 (reg.five r))));
      }

  -- two distinct nearest words: they end in two states, or t has a tie
  pub ambiguous_found : Ambiguous (OfLength n) (free_metric N branch) → ((r : ℕ) × (r < 32) × (state_metric wholes X n r ≡ m) × (r ≡ t → ⊥)) ⊎ (tie X 5 n t ≡ true)
  ambiguous_found v = go (ℕ_discrete x t) (ℕ_discrete y t)
    where
      one : List Bool
      one = v.one

      other : List Bool
      other = v.other

      p : (s : ℕ) × (s < 32) × (free_metric N branch one ≡ word_metric N branch s one)
      p = metric_from one

      q : (s : ℕ) × (s < 32) × (free_metric N branch other ≡ word_metric N branch s other)
      q = metric_from other

      x : ℕ
      x = state_after N p.0 one

      y : ℕ
      y = state_after N q.0 other

      -- a nearest word's start, end and metric
      least_from : (u : List Bool) (s : ℕ) → Nearest (OfLength n) (free_metric N branch) u → free_metric N branch u ≡ word_metric N branch s u → word_metric N branch s u ≡ m
      least_from u s h e = sym e ∙ nearest_same h survivor_nearest ∙ survivor_metric

      end_least : (u : List Bool) (s : ℕ) → s < 32 → length u ≡ n → word_metric N branch s u ≡ m → state_metric wholes X n (state_after N s u) ≡ m
      end_least u s hs l e =
          let z : state_after N s u < 32 = path.state_below N reg s u hs in
          omega (arith, path.metric_least N reg branch start s (state_after N s u) n u hs z (record { steps = l; ends = refl }), free s hs, e, lm (state_after N s u) z)

      -- a word of the least metric into t, as a path
      as_path : (s : ℕ) (u : List Bool) → s < 32 → word_metric N branch s u ≡ m → Leads N s t n u → path_metric X t (path.choices N s u) ≡ m
      as_path s u hs e l = omega (arith, path.path_metric_lem N reg branch start s t n u hs ht l, free s hs, e)

      p_least : word_metric N branch p.0 one ≡ m
      p_least = least_from one p.0 v.one_nearest p.2

      q_least : word_metric N branch q.0 other ≡ m
      q_least = least_from other q.0 v.other_nearest q.2

      same_end : x ≡ t → y ≡ t → tie X 5 n t ≡ true
      same_end ex ey =
          let lx : Leads N p.0 t n one = record { steps = v.one_nearest.word; ends = ex } in
          let ly : Leads N q.0 t n other = record { steps = v.other_nearest.word; ends = ey } in
          let c : List Bool = path.choices N p.0 one in
          let d : List Bool = path.choices N q.0 other in
          let lc : length c ≡ n = path.path_length N reg p.0 t n one lx in
          let ld : length d ≡ n = path.path_length N reg q.0 t n other ly in
          let em' : state_metric wholes X (length c) t ≡ m = ap (λ (k : ℕ). state_metric wholes X k t) lc ∙ em in
          subst (λ (k : ℕ). tie X 5 k t ≡ true) lc
          (opt.tie-complete X 5 t c d (ld ∙ sym lc) (as_path p.0 one p.1 p_least lx ∙ sym em') (as_path q.0 other q.1 q_least ly ∙ sym em')
          (words_differ N reg t n c d ht lc ld h5 (λ e. v.distinct
          (sym (path.path_word N reg p.0 t n one p.1 lx) ∙ e ∙ path.path_word N reg q.0 t n other q.1 ly))))

      go : Dec (x ≡ t) → Dec (y ≡ t) → ((r : ℕ) × (r < 32) × (state_metric wholes X n r ≡ m) × (r ≡ t → ⊥)) ⊎ (tie X 5 n t ≡ true)
      go (no a) d = inl (x, path.state_below N reg p.0 one p.1, end_least one p.0 p.1 v.one_nearest.word p_least, a)
      go (yes a) (no b) = inl (y, path.state_below N reg q.0 other q.1, end_least other q.0 q.1 v.other_nearest.word q_least, b)
      go (yes a) (yes b) = inr (same_end a b)
