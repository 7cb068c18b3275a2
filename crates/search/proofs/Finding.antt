-- What `nearest_between` finds. Assumes nothing.
use mathlib.Core.Path.{◌≡◌, sym, subst, ◌∙◌}
use mathlib.Core.Bool.{Bool, false}
use mathlib.Core.List.{List}
use Prim.Native.Nat.{ℕ, ◌<◌, ◌≤◌}
use native.Mathlib.Omega.{arith}
use native.Mathlib.Decide.{ℕ_discrete}
use lib.ListN.{length, get_or, set, replicate, get_or-replicate}
use lib.Seq.{get_or-set_same, get_or-set_other}
use Rattle.trellis.specs.Search.{FoundFirst}
use Rattle.trellis.specs.Numbering.{newest_low}
use Rattle.trellis.specs.Words.{Leads, word_metric}
use Rattle.trellis.specs.Trellis.{wholes, survivor, tie, word}
use Rattle.search.specs.Forward.{engine, Starts, Rows, Forwarded, branch_by}
use Rattle.search.specs.Traceback.{Traced}
use Rattle.trellis.proofs.Registers.{register_low_lem}
use Rattle.search.proofs.Running.{branch_le}
use Rattle.search.proofs.Survivors as surv
use Rattle.trellis.proofs.FixedStart as fixed

-- the start in the state s
abbrev start_in : ℕ → List ℕ
start_in s = set (replicate 32 1000) s 0

start_free : (s : ℕ) → s < 32 → get_or (start_in s) s 0 ≡ 0
start_free s h = get_or-set_same (replicate 32 1000) s 0 0 h

start_dear : (s r : ℕ) → r < 32 → (r ≡ s → ⊥) → 1000 ≤ get_or (start_in s) r 0
start_dear s r h n = omega (arith, get_or-set_other {A = ℕ} (replicate 32 1000) s r 0 0 n, get_or-replicate {A = ℕ} 32 r 1000 0 h)

pub start_le : (s : ℕ) → s < 32 → Starts (start_in s)
start_le s h r l = go (ℕ_discrete r s)
  where
    go : Dec (r ≡ s) → get_or (start_in s) r 0 ≤ 1000
    go (yes e) = subst (λ (x : ℕ). get_or (start_in s) x 0 ≤ 1000) (sym e) (omega (arith, start_free s h))
    go (no n) = omega (arith, get_or-set_other {A = ℕ} (replicate 32 1000) s r 0 0 n, get_or-replicate {A = ℕ} 32 r 1000 0 l)

module _ (rows : List (List ℕ)) (symbols : List ℕ) (c : Rows rows symbols) (s t : ℕ) (hs : s < 32) (ht : t < 32) (h5 : 5 ≤ length symbols) (hn : length symbols ≤ 130) where
  pub found : (ps₀ ps : List (List ℕ)) (ms bits : List ℕ) (n : ℕ) (mark : Bool) → Forwarded (engine (branch_by rows symbols) (start_in s)) ps₀ ps (length symbols) ms
      → n ≡ length symbols → Traced ps 0 n t bits mark
      → FoundFirst (Leads newest_low s t (length symbols)) (word_metric newest_low (branch_by rows symbols) s) bits (record { metric = get_or ms t 0; tie = mark })
  found ps₀ ps ms bits n mark f en b' =
      let b : Traced ps 0 (length symbols) t bits mark = subst (λ (k : ℕ). Traced ps 0 k t bits mark) en b' in
      let start : ℕ → ℕ = λ r. get_or (start_in s) r 0 in
      let q : fixed.FixedStart newest_low (branch_by rows symbols) start s (length symbols) 1000 4 =
      record { free = start_free s hs; dear = start_dear s; cheap = branch_le rows symbols c; room = omega arith } in
      let m : mark ≡ tie (engine (branch_by rows symbols) (start_in s)) 0 (length symbols) t =
      b.tied ∙ surv.tied_bytes_lem (branch_by rows symbols) (start_in s) ps 0 (length symbols) t false ht f.bytes in
      record {
        found = record {
          word = word newest_low t (survivor wholes (engine (branch_by rows symbols) (start_in s)) (length symbols) t);
          written = b.word ∙ surv.bytes_word (branch_by rows symbols) (start_in s) ps (length symbols) t ht f.bytes;
          nearest = (fixed.survivor_is_first newest_low register_low_lem (branch_by rows symbols) start s t (length symbols) 1000 4 hs ht h5 q).nearest;
          metric = f.metrics t ht ∙ sym (fixed.survivor_metric newest_low register_low_lem (branch_by rows symbols) start s t (length symbols) 1000 4 hs ht h5 q);
          tied = λ g. fixed.tie_ambiguous newest_low register_low_lem (branch_by rows symbols) start s t (length symbols) 1000 4 hs ht h5 q (sym m ∙ g);
          alone = λ r. m ∙ fixed.ambiguous_tie newest_low register_low_lem (branch_by rows symbols) start s t (length symbols) 1000 4 hs ht h5 q r;
        };
        first = fixed.survivor_is_first newest_low register_low_lem (branch_by rows symbols) start s t (length symbols) 1000 4 hs ht h5 q;
      }
