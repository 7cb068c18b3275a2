-- `soft::viterbi_soft` meets its contract: the stored predecessors lead back as the Rust's do, along the survivor, whose word is the nearest. Assumes nothing.
use mathlib.Core.Path.{◌≡◌, refl, sym, ◌∙◌, subst}
use mathlib.Core.List.{List, []}
use Prim.Native.Nat.{ℕ, ◌*◌, ◌/◌, ◌<◌}
use native.Mathlib.Omega.{arith}
use lib.ListN.{length}
use lib.Ieee.{Float}
use Rattle.soft.specs.RustOrder.{rust_from, rust_bits}
use Rattle.soft.specs.Step.{rows_at, StoredTo}
use Rattle.soft.specs.Soft.{soft_word}
use Rattle.soft.proofs.Tracing.{traced_same}
use Rattle.soft.proofs.RustOrder.{rust_below, rust_same}
use Rattle.soft.proofs.Termination.{soft_terminated}
use Rattle.soft.proofs.Exactness.{no_rounding, soft_nearest}
use borrow.Author.Rules.{rules}
use Rattle.soft.proofs.viterbi_soft.Goals as goal

stored-all : (values : List Float) (rows : List (List ℕ)) (n : ℕ) → length values ≡ n * 2 → StoredTo values rows (length values / 2) → StoredTo values rows n
stored-all values rows n e d = let h : length values / 2 ≡ n = omega arith in subst (StoredTo values rows) h d

pub traceback-requires : goal.traceback-requires
traceback-requires c =
    let values = c.args.values.now in
    let made = c.forward-predecessors in
    let n = length c.args.word.now in
    let below : (k s : ℕ) → k < n → s < 32 → rust_from values k s < 32 = rust_below values n (omega (arith, c.requires.2)) c.requires.3 in
    record { word_in_bounds = search rules; by_index = λ k s hk hs. subst (λ (p : ℕ). p < 32) (sym (stored-all values made.result n c.requires.2 made.ensures.1 k hk s hs)) (below k s hk hs) }

pub returns : goal.returns
unfolding rust_bits
returns c =
    let values = c.args.values.now in
    let n = length c.args.word.now in
    let made = c.forward-predecessors in
    let twice = c.requires.2 in
    let all = c.requires.3 in
    let rust = c.traceback.ensures ∙ traced_same (rows_at made.result) (rust_from values) n 0 [] (omega arith) (λ k s hk hs. stored-all values made.result n twice made.ensures.1 k hk s hs) (rust_below values n (omega (arith, twice)) all) in
    record {
      word = soft_word values n;
      written = rust ∙ sym (rust_same values n (omega (arith, twice)) all);
      rust = rust;
      survivor = refl;
      terminated = soft_terminated values n c.requires.0;
      exact = λ h. no_rounding values n twice c.requires.0 (omega arith) h;
      nearest = λ h. soft_nearest values n twice c.requires.0 (omega arith) h;
    }
