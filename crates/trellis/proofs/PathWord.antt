-- Paths and words: a path into a state is a start and a word, and costs the start and the word's metric. Assumes nothing.
use mathlib.Core.Path.{◌≡◌, refl, sym, ap, ap₂, ◌∙◌}
use mathlib.Core.Bool.{Bool, false}
use mathlib.Core.List.{List, [], ◌∷◌, ◌++◌, append_assoc, append-nil}
use Prim.Native.Nat.{ℕ, suc, ◌+◌, ◌-◌, ◌*◌, ◌≤◌, ◌<◌}
use native.Mathlib.Nat.{suc-mul}
use native.Mathlib.Omega.{arith}
use lib.ListN.{length, take, replicate, length-replicate, length-append}
use lib.Seq.{take-append-le, take_at}
use Rattle.trellis.specs.Numbering.{Numbering}
use Rattle.trellis.specs.Words.{state_after, word_metric, Leads, Terminated}
use Rattle.trellis.specs.Trellis.{Trellis, wholes, origin, path_metric, state_metric, word}
use Rattle.trellis.proofs.Registers.{Register}
use Rattle.trellis.proofs.Optimal as opt

-- the choices of predecessor that the word u from s makes
unfoldable pub choices : Numbering → ℕ → List Bool → List Bool
choices N s [] = []
choices N s (b ∷ u) = N.oldest (state_after N s u) ∷ choices N s u

pub word-length : (N : Numbering) (t : ℕ) (w : List Bool) → length (word N t w) ≡ length w
unfolding word
word-length N t [] = refl
word-length N t (b ∷ w) = ap suc (word-length N (N.pred t b) w)

pub choices_length : (N : Numbering) (s : ℕ) (u : List Bool) → length (choices N s u) ≡ length u
unfolding choices
choices_length N s [] = refl
choices_length N s (b ∷ u) = ap suc (choices_length N s u)

module _ (N : Numbering) (reg : Register N) where
  pub origin_below : (t : ℕ) (w : List Bool) → t < 32 → origin N t w < 32
  unfolding origin
  origin_below t [] h = h
  origin_below t (b ∷ w) h = origin_below (N.pred t b) w (reg.pred_below t b h)

  pub state_below : (s : ℕ) (u : List Bool) → s < 32 → state_after N s u < 32
  unfolding state_after
  state_below s [] h = h
  state_below s (b ∷ u) h = reg.next_below (state_after N s u) b (state_below s u h)

  -- a path's bits, read from either end
  pub memory_word : (t : ℕ) (w : List Bool) → t < 32 → N.memory t ++ w ≡ word N t w ++ N.memory (origin N t w)
  unfolding word origin
  memory_word t [] h = append-nil (N.memory t)
  memory_word t (b ∷ w) h =
      sym (append_assoc (N.memory t) (b ∷ []) w) ∙ ap (λ (l : List Bool). l ++ w) (reg.shifted t b h)
      ∙ ap (λ (l : List Bool). N.newest t ∷ l) (memory_word (N.pred t b) w (reg.pred_below t b h))

  pub word_state : (t : ℕ) (w : List Bool) → t < 32 → state_after N (origin N t w) (word N t w) ≡ t
  unfolding word origin state_after
  word_state t [] h = refl
  word_state t (b ∷ w) h =
      ap (λ (s : ℕ). N.next s (N.newest t)) (word_state (N.pred t b) w (reg.pred_below t b h)) ∙ reg.next_pred t b h

  pub choices_origin : (s : ℕ) (u : List Bool) → s < 32 → origin N (state_after N s u) (choices N s u) ≡ s
  unfolding choices origin state_after
  choices_origin s [] h = refl
  choices_origin s (b ∷ u) h =
      ap (λ (r : ℕ). origin N r (choices N s u)) (reg.pred_next (state_after N s u) b (state_below s u h)) ∙ choices_origin s u h

  pub choices_word : (s : ℕ) (u : List Bool) → s < 32 → word N (state_after N s u) (choices N s u) ≡ u
  unfolding choices word state_after
  choices_word s [] h = refl
  choices_word s (b ∷ u) h =
      ap (λ (a : Bool). a ∷ word N (N.pred (N.next (state_after N s u) b) (N.oldest (state_after N s u))) (choices N s u)) (reg.newest_next (state_after N s u) b (state_below s u h))
      ∙ ap (λ (r : ℕ). b ∷ word N r (choices N s u)) (reg.pred_next (state_after N s u) b (state_below s u h))
      ∙ ap (λ (l : List Bool). b ∷ l) (choices_word s u h)

  -- a word that leads from s to t, as a path into t
  pub path_word : (s t n : ℕ) (u : List Bool) → s < 32 → Leads N s t n u → word N t (choices N s u) ≡ u
  path_word s t n u hs h = ap (λ (r : ℕ). word N r (choices N s u)) (sym h.ends) ∙ choices_word s u hs

  pub path_origin : (s t n : ℕ) (u : List Bool) → s < 32 → Leads N s t n u → origin N t (choices N s u) ≡ s
  path_origin s t n u hs h = ap (λ (r : ℕ). origin N r (choices N s u)) (sym h.ends) ∙ choices_origin s u hs

  pub path_length : (s t n : ℕ) (u : List Bool) → Leads N s t n u → length (choices N s u) ≡ n
  path_length s t n u h = choices_length N s u ∙ h.steps

  -- ---- the state is the last five inputs
  pub memory_state : (s : ℕ) (u : List Bool) → s < 32 → N.memory (state_after N s u) ++ choices N s u ≡ u ++ N.memory s
  memory_state s u h =
      memory_word (state_after N s u) (choices N s u) (state_below s u h)
      ∙ ap₂ (λ (l : List Bool) (o : ℕ). l ++ N.memory o) (choices_word s u h) (choices_origin s u h)

  pub last_five_lem : (s : ℕ) (u : List Bool) → s < 32 → 5 ≤ length u → take 5 u ≡ N.memory (state_after N s u)
  last_five_lem s u h l =
      sym (take-append-le 5 u (N.memory s) l) ∙ ap (take 5) (sym (memory_state s u h))
      ∙ take_at (N.memory (state_after N s u)) (choices N s u) 5 (reg.five (state_after N s u))

  -- some word of n inputs leads from s to t
  pub reach : (s t n : ℕ) → s < 32 → t < 32 → 5 ≤ n → Leads N s t n (N.memory t ++ replicate (n - 5) false)
  reach s t n hs ht h =
      let u : List Bool = N.memory t ++ replicate (n - 5) false in
      let l : length u ≡ n = length-append (N.memory t) (replicate (n - 5) false) ∙ ap₂ (λ (a b : ℕ). a + b) (reg.five t) (length-replicate (n - 5) false) ∙ omega arith in
      record {
        steps = l;
        ends = reg.memory_one (state_after N s u) t (state_below s u hs) ht
            (sym (last_five_lem s u hs (omega arith)) ∙ take_at (N.memory t) (replicate (n - 5) false) 5 (reg.five t));
      }

  -- where state 0 holds zeros, the words from state 0 to state 0 are those that end in five zeros
  module _ (zeros : N.memory 0 ≡ replicate 5 false) (n : ℕ) (h5 : 5 ≤ n) where
    pub leads_terminated : (u : List Bool) → Leads N 0 0 n u → Terminated n u
    leads_terminated u h =
        record { steps = h.steps; tail = last_five_lem 0 u (omega arith) (omega (arith, h.steps)) ∙ ap N.memory h.ends ∙ zeros }

    pub terminated_leads : (u : List Bool) → Terminated n u → Leads N 0 0 n u
    terminated_leads u h =
        record {
          steps = h.steps;
          ends = reg.memory_one (state_after N 0 u) 0 (state_below 0 u (omega arith)) (omega arith)
              (sym (last_five_lem 0 u (omega arith) (omega (arith, h.steps))) ∙ h.tail ∙ sym zeros);
        }

  module _ (branch : ℕ → ℕ → Bool → ℕ) where
    pub word_bound : (steps d : ℕ) → ((k s : ℕ) (b : Bool) → k < steps → s < 32 → branch k s b ≤ d) → (s : ℕ) (u : List Bool) → s < 32 → length u ≤ steps
        → word_metric N branch s u ≤ length u * d
    unfolding word_metric
    word_bound steps d h s [] hs l = omega arith
    word_bound steps d h s (b ∷ u) hs l =
        let i : word_metric N branch s u ≤ length u * d = word_bound steps d h s u hs (omega arith) in
        let j : branch (length u) (state_after N s u) b ≤ d = h (length u) (state_after N s u) b l (state_below s u hs) in
        let e : suc (length u) * d ≡ length u * d + d = suc-mul (length u) d in
        omega arith

  module _ (branch : ℕ → ℕ → Bool → ℕ) (start : ℕ → ℕ) where
    abbrev X : Trellis ℕ
    X = record { numbering = N; branch = branch; start = start }

    pub metric_word : (t : ℕ) (w : List Bool) → t < 32 → path_metric X t w ≡ start (origin N t w) + word_metric N branch (origin N t w) (word N t w)
    unfolding path_metric origin word_metric word
    metric_word t [] h = omega arith
    metric_word t (b ∷ w) h =
        let p : ℕ = N.pred t b in
        let ih : path_metric X p w ≡ start (origin N p w) + word_metric N branch (origin N p w) (word N p w) = metric_word p w (reg.pred_below t b h) in
        let l : branch (length (word N p w)) (state_after N (origin N p w) (word N p w)) (N.newest t) ≡ branch (length w) p (N.newest t) =
        ap₂ (λ (k s : ℕ). branch k s (N.newest t)) (word-length N p w) (word_state p w (reg.pred_below t b h)) in
        omega arith

    pub path_metric_lem : (s t n : ℕ) (u : List Bool) → s < 32 → t < 32 → Leads N s t n u → path_metric X t (choices N s u) ≡ start s + word_metric N branch s u
    path_metric_lem s t n u hs ht h =
        metric_word t (choices N s u) ht ∙ ap₂ (λ (r : ℕ) (l : List Bool). start r + word_metric N branch r l) (path_origin s t n u hs h) (path_word s t n u hs h)

    -- no word into t, with its start, costs less than the metric of t
    pub metric_least : (s t n : ℕ) (u : List Bool) → s < 32 → t < 32 → Leads N s t n u → state_metric wholes X n t ≤ start s + word_metric N branch s u
    metric_least s t n u hs ht h =
        let c : List Bool = choices N s u in
        let m : state_metric wholes X (length c) t ≤ path_metric X t c = opt.least X t c in
        let q : state_metric wholes X (length c) t ≡ state_metric wholes X n t = ap (λ (k : ℕ). state_metric wholes X k t) (path_length s t n u h) in
        omega (arith, path_metric_lem s t n u hs ht h)
