-- The search from one state to another: the survivor's word is the nearest word, and its tie is ambiguity. Assumes nothing.
use mathlib.Core.Path.{◌≡◌, sym, ap, ap₂, subst, ◌∙◌}
use mathlib.Core.Bool.{Bool, true, false}
use mathlib.Core.List.{List, ◌++◌, append_cancel_left}
use Prim.Native.Nat.{ℕ, ◌-◌, ◌*◌, ◌≤◌, ◌<◌}
use native.Mathlib.Omega.{arith}
use native.Mathlib.Decide.{ℕ_discrete}
use lib.ListN.{length, replicate}
use Rattle.trellis.specs.Search.{Nearest, Ambiguous, Precedes, First}
use Rattle.trellis.specs.Numbering.{Numbering}
use Rattle.trellis.specs.Words.{state_after, word_metric, Leads}
use Rattle.trellis.specs.Trellis.{Trellis, wholes, DifferAfter, TiedPaths, origin, path_metric, state_metric, survivor, tie, word}
use Rattle.trellis.proofs.Registers.{Register}
use Rattle.trellis.proofs.Order.{precedes_prefix, precedes_suffix, differ_distinct, distinct_differ}
use Rattle.trellis.proofs.Searching.{nearest_same}
use Rattle.trellis.proofs.PathWord as path
use Rattle.trellis.proofs.Optimal as opt

-- s costs nothing to start in, any other state at least `far`; no branch metric is above d, and n of them stay below `far`
pub record FixedStart (N : Numbering) (branch : ℕ → ℕ → Bool → ℕ) (start : ℕ → ℕ) (s n far d : ℕ) : Type 0 where
  pub free : start s ≡ 0
  pub dear : (r : ℕ) → r < 32 → (r ≡ s → ⊥) → far ≤ start r
  pub cheap : (k r : ℕ) (b : Bool) → k < n → r < 32 → branch k r b ≤ d
  pub room : n * d < far

module _ (N : Numbering) (reg : Register N) (branch : ℕ → ℕ → Bool → ℕ) (start : ℕ → ℕ) (s t n far d : ℕ) (hs : s < 32) (ht : t < 32) (h5 : 5 ≤ n)
    (fixed : FixedStart N branch start s n far d) where
  abbrev X : Trellis ℕ
  X = record { numbering = N; branch = branch; start = start }

  metric_le : (u : List Bool) → Leads N s t n u → state_metric wholes X n t ≤ word_metric N branch s u
  metric_le u h = omega (arith, path.metric_least N reg branch start s t n u hs ht h, fixed.free)

  -- the metric of t is below `far`
  pub reached : state_metric wholes X n t < far
  reached =
      let u : List Bool = N.memory t ++ replicate (n - 5) false in
      let l : Leads N s t n u = path.reach N reg s t n hs ht h5 in
      let b : word_metric N branch s u ≤ length u * d = path.word_bound N reg branch n d fixed.cheap s u hs (omega (arith, l.steps)) in
      let e : length u * d ≡ n * d = ap (λ (k : ℕ). k * d) l.steps in
      omega (arith, metric_le u l, fixed.room)

  -- a path of the least metric begins in s; its word leads from s to t and has that metric
  module _ (w : List Bool) (l : length w ≡ n) (e : path_metric X t w ≡ state_metric wholes X n t) where
    from_start : origin N t w ≡ s
    from_start = go (ℕ_discrete (origin N t w) s)
      where
        go : Dec (origin N t w ≡ s) → origin N t w ≡ s
        go (yes p) = p
        go (no p) =
            let z : ⊥ = omega (arith, fixed.dear (origin N t w) (path.origin_below N reg t w ht) p, path.metric_word N reg branch start t w ht, e, reached) in
            absurd z

    word_leads : Leads N s t n (word N t w)
    word_leads =
        record {
          steps = path.word-length N t w ∙ l;
          ends = subst (λ (r : ℕ). state_after N r (word N t w) ≡ t) from_start (path.word_state N reg t w ht);
        }

    word_least : word_metric N branch s (word N t w) ≡ state_metric wholes X n t
    word_least =
        let a : start (origin N t w) ≡ 0 = ap start from_start ∙ fixed.free in
        let b : word_metric N branch (origin N t w) (word N t w) ≡ word_metric N branch s (word N t w) = ap (λ (r : ℕ). word_metric N branch r (word N t w)) from_start in
        omega (arith, path.metric_word N reg branch start t w ht, e)

  abbrev surv : List Bool
  surv = survivor wholes X n t

  surv_least : path_metric X t surv ≡ state_metric wholes X n t
  surv_least = opt.survivor_cost X n t

  surv_length : length surv ≡ n
  surv_length = opt.survivor-length X n t

  pub survivor_metric : word_metric N branch s (word N t surv) ≡ state_metric wholes X n t
  survivor_metric = word_least surv surv_length surv_least

  -- a word of the least metric, as a path of the least metric
  least_path : (u : List Bool) → Leads N s t n u → word_metric N branch s u ≡ state_metric wholes X n t
      → path_metric X t (path.choices N s u) ≡ state_metric wholes X (length (path.choices N s u)) t
  least_path u h e =
      let l : state_metric wholes X (length (path.choices N s u)) t ≡ state_metric wholes X n t = ap (λ (k : ℕ). state_metric wholes X k t) (path.path_length N reg s t n u h) in
      omega (arith, path.path_metric_lem N reg branch start s t n u hs ht h, fixed.free, e, l)

  -- a word of the least metric, against the survivor's
  survivor_first : (u : List Bool) → Leads N s t n u → word_metric N branch s u ≡ state_metric wholes X n t → Precedes (word N t surv) u
  survivor_first u h e =
      let c : List Bool = path.choices N s u in
      let b : Precedes surv c =
      subst (λ (k : ℕ). Precedes (survivor wholes X k t) c) (path.path_length N reg s t n u h) (opt.first X t c (least_path u h e)) in
      let q : N.memory t ++ c ≡ u ++ N.memory s = ap (λ (r : ℕ). N.memory r ++ c) (sym h.ends) ∙ path.memory_state N reg s u hs in
      precedes_suffix (word N t surv) u (N.memory (origin N t surv)) (N.memory s) (path.word-length N t surv ∙ surv_length ∙ sym h.steps)
      (subst (λ (x : List Bool). Precedes x (u ++ N.memory s)) (path.memory_word N reg t surv ht)
      (subst (λ (x : List Bool). Precedes (N.memory t ++ surv) x) q (precedes_prefix (N.memory t) surv c b)))

  -- the word of a path of the least metric is nearest
  path_nearest : (w : List Bool) → length w ≡ n → path_metric X t w ≡ state_metric wholes X n t → Nearest (Leads N s t n) (word_metric N branch s) (word N t w)
  path_nearest w l e = record { word = word_leads w l e; least = λ u h. omega (arith, word_least w l e, metric_le u h) }

  nearest_least : (u : List Bool) → Nearest (Leads N s t n) (word_metric N branch s) u → word_metric N branch s u ≡ state_metric wholes X n t
  nearest_least u h = nearest_same h (path_nearest surv surv_length surv_least) ∙ survivor_metric

  -- the survivor's word is the first of the nearest words
  pub survivor_is_first : First (Leads N s t n) (word_metric N branch s) (word N t surv)
  survivor_is_first =
      record {
        nearest = path_nearest surv surv_length surv_least;
        first = λ u h. survivor_first u h.word (nearest_least u h);
      }

  -- a tie exactly where two distinct words share the least metric
  pub tie_ambiguous : tie X 0 n t ≡ true → Ambiguous (Leads N s t n) (word_metric N branch s)
  tie_ambiguous f =
      let r : TiedPaths X 0 n t = opt.tie_sound X 0 n t f in
      record {
        one = word N t r.one;
        other = word N t r.other;
        one_nearest = path_nearest r.one r.one_length r.one_least;
        other_nearest = path_nearest r.other r.other_length r.other_least;
        distinct = λ e. differ_distinct r.one r.other r.distinct
            (append_cancel_left (N.memory t) r.one r.other
            (path.memory_word N reg t r.one ht
            ∙ ap₂ (λ (l : List Bool) (o : ℕ). l ++ N.memory o) e (from_start r.one r.one_length r.one_least ∙ sym (from_start r.other r.other_length r.other_least))
            ∙ sym (path.memory_word N reg t r.other ht)));
      }

  pub ambiguous_tie : Ambiguous (Leads N s t n) (word_metric N branch s) → tie X 0 n t ≡ true
  ambiguous_tie r =
      let hu : Leads N s t n r.one = r.one_nearest.word in
      let hw : Leads N s t n r.other = r.other_nearest.word in
      let u : List Bool = path.choices N s r.one in
      let w : List Bool = path.choices N s r.other in
      let lu : length u ≡ n = path.path_length N reg s t n r.one hu in
      let lw : length w ≡ n = path.path_length N reg s t n r.other hw in
      let cw : path_metric X t w ≡ state_metric wholes X (length u) t =
      least_path r.other hw (nearest_least r.other r.other_nearest) ∙ ap (λ (k : ℕ). state_metric wholes X k t) (lw ∙ sym lu) in
      let diff : DifferAfter 0 u w = distinct_differ u w (lu ∙ sym lw) (λ q. r.distinct
      (sym (path.path_word N reg s t n r.one hs hu) ∙ ap (word N t) q ∙ path.path_word N reg s t n r.other hs hw)) in
      subst (λ (k : ℕ). tie X 0 k t ≡ true) lu
      (opt.tie-complete X 0 t u w (lw ∙ sym lu) (least_path r.one hu (nearest_least r.one r.one_nearest)) cw diff)
