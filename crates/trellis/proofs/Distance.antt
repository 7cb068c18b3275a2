-- The metric of a word under the branch metrics of a code is the sum over its coded bits: the number of disagreements, where f counts them.
-- Assumes nothing.
use mathlib.Core.Path.{◌≡◌, refl, sym, ap, ap₂, ◌∙◌}
use mathlib.Core.Bool.{Bool}
use mathlib.Core.List.{List, [], ◌∷◌, ◌++◌, append-nil, reverse, reverse-cons, reverse-reverse}
use Prim.Native.Nat.{ℕ, ◌+◌, ◌*◌, ◌<◌}
use lib.ListN.{length, take, drop, length-reverse}
use lib.Seq.{take_at}
use Rattle.bits.specs.Bits.{tally}
use Rattle.bits.proofs.Tally.{tally-append}
use Rattle.coding.specs.Codes.{outputs, coded}
use Rattle.coding.specs.Laws.{AtMostSix}
use Rattle.coding.proofs.Coded.{coded-append, coded-length, coded_newest}
use Rattle.trellis.specs.Numbering.{Numbering}
use Rattle.trellis.specs.Words.{state_after, word_metric, branch_of}
use Rattle.trellis.proofs.Registers.{Register}
use Rattle.trellis.proofs.PathWord as path

module _ (N : Numbering) (reg : Register N) (code : List (List Bool)) (six : AtMostSix code) where
  -- a state holds the newest five inputs
  newest_five : (s : ℕ) (u : List Bool) → s < 32 → take 5 (u ++ N.memory s) ≡ take 5 (N.memory (state_after N s u))
  newest_five s u h =
      let t : ℕ = state_after N s u in
      ap (take 5) (sym (path.memory_state N reg s u h)) ∙ take_at (N.memory t) (path.choices N s u) 5 (reg.five t)
      ∙ sym (ap (take 5) (sym (append-nil (N.memory t))) ∙ take_at (N.memory t) [] 5 (reg.five t))

  -- the coded bits of one input more
  coded_more : (s : ℕ) (b : Bool) (u : List Bool) → s < 32 → coded code (N.memory s) (reverse (b ∷ u)) ≡ coded code (N.memory s) (reverse u) ++ outputs code (b ∷ N.memory (state_after N s u))
  unfolding coded
  coded_more s b u h =
      ap (coded code (N.memory s)) (reverse-cons b u) ∙ coded-append code (N.memory s) (reverse u) (b ∷ [])
      ∙ ap (λ (l : List Bool). coded code (N.memory s) (reverse u) ++ l)
      (ap (λ (w : List Bool). coded code (w ++ N.memory s) (b ∷ [])) (reverse-reverse u)
      ∙ coded_newest code six (u ++ N.memory s) (N.memory (state_after N s u)) (b ∷ []) (newest_five s u h)
      ∙ append-nil (outputs code (b ∷ N.memory (state_after N s u))))

  pub distance : {B : Type 0} (f : Bool → B → ℕ) (received : List B) (s : ℕ) (u : List Bool) → s < 32
      → word_metric N (branch_of code N.memory f received) s u ≡ tally f (coded code (N.memory s) (reverse u)) received
  unfolding word_metric branch_of coded tally
  distance f received s [] h = refl
  distance f received s (b ∷ u) h =
      let c : List Bool = coded code (N.memory s) (reverse u) in
      let l : length c ≡ length u * length code = coded-length code (N.memory s) (reverse u) ∙ ap (λ (n : ℕ). n * length code) (length-reverse u) in
      ap₂ (λ (a n : ℕ). a + tally f (outputs code (b ∷ N.memory (state_after N s u))) (drop n received)) (distance f received s u h) (sym l)
      ∙ sym (tally-append f c (outputs code (b ∷ N.memory (state_after N s u))) received) ∙ ap (λ (x : List Bool). tally f x received) (sym (coded_more s b u h))
