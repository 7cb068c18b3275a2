-- A word's coded bits with one bit of their last pair wrong are Ambiguous: the word with its last bit inverted has the other last pair, so that either is one
-- bit away. No word is nearer: the pairs before show the inputs and the memory. Assumes nothing.
use mathlib.Core.Path.{◌≡◌, refl, sym, ap, ap₂, ◌∙◌}
use mathlib.Core.Bool.{Bool, true, false, not, Bool-discrete, false≢true}
use mathlib.Core.List.{List, [], ◌∷◌, ◌++◌, append_cancel_left, reverse, reverse-reverse}
use Prim.Native.Nat.{ℕ, zero, suc, ◌+◌, ◌-◌, ◌*◌, ◌≤◌, ◌<◌}
use native.Mathlib.Omega.{arith}
use native.Mathlib.Decide.{ℕ_discrete}
use native.Mathlib.Nat.{zero-add, suc-add, add_assoc}
use lib.ListN.{length, get_or, set, take, length-append, length-reverse}
use lib.Seq.{length-take-le, take-suc, take_all}
use Rattle.std.specs.Prelude.{Err}
use Rattle.bits.specs.Bits.{◌⊕◌, tally, disagreement, disagreements}
use Rattle.bits.specs.declared.Refusal.TheVariants as refusal
use Rattle.bits.proofs.Binary.{differ_same, differ_other}
use Rattle.bits.proofs.Tally.{disagreements_self, disagreements_none}
use Rattle.coding.specs.Codes.{tapped, outputs, coded, dcch}
use Rattle.coding.specs.Registers.{memory_high}
use Rattle.coding.proofs.Coded.{coded-length, coded-append}
use Rattle.coding.proofs.Unique.{cancel, unique}
use Rattle.trellis.specs.Search.{Nearest, Ambiguous}
use Rattle.trellis.specs.Words.{OfLength}
use Rattle.viterbi.specs.Hard.{free_weight}
use Rattle.sacch_encoder.specs.Words.{word_of}
use Rattle.sacch_decoder.specs.Decoding.{decode_of}
use Rattle.sacch_decoder.proofs.Meaning.{ambiguous}
use Rattle.sacch_decoder.proofs.Weighing.{from, weight_le, weight_at}
use Rattle.sacch.proofs.RoundTrip.{word-length}

-- one bit inverted
abbrev pub flipped : ℕ → List Bool → List Bool
flipped k l = set l k (not (get_or l k false))

flipped_after : (u w : List Bool) (k : ℕ) → flipped (length u + k) (u ++ w) ≡ u ++ flipped k w
flipped_after [] w k = ap (λ (n : ℕ). flipped n w) (zero-add k)
flipped_after (b ∷ u) w k = ap (λ (n : ℕ). flipped n (b ∷ (u ++ w))) (suc-add (length u) k) ∙ ap (λ (l : List Bool). b ∷ l) (flipped_after u w k)

-- ---- one pair
opposite : (a b : Bool) → disagreement a (not b) + disagreement a b ≡ 1
opposite false false = refl
opposite false true = refl
opposite true false = refl
opposite true true = refl

-- differ z y, whatever is added to both
shifted : (y z p : Bool) → disagreement (z ⊕ p) (y ⊕ p) ≡ disagreement z y
shifted y z p = elim (Bool-discrete z y) [
  | yes e ↦ ap (λ (b : Bool). disagreement (z ⊕ p) (b ⊕ p)) (sym e) ∙ differ_same (z ⊕ p) ∙ sym (differ_same z) ∙ ap (disagreement z) e
  | no n ↦ differ_other (z ⊕ p) (y ⊕ p) (λ e. n (cancel z y p e)) ∙ sym (differ_other z y n)
]

pair_one : (y z p q : Bool) (k : ℕ) → k < 2 → disagreements ((z ⊕ p) ∷ (z ⊕ q) ∷ []) (flipped k ((y ⊕ p) ∷ (y ⊕ q) ∷ [])) ≡ 1
unfolding tally
pair_one y z p q zero h = omega (arith, opposite (z ⊕ p) (y ⊕ p), shifted y z p, shifted y z q)
pair_one y z p q (suc zero) h = omega (arith, opposite (z ⊕ q) (y ⊕ q), shifted y z p, shifted y z q)
pair_one y z p q (suc (suc k)) h = absurd (omega arith)

-- after the same inputs, either input is one bit away from a pair with one bit wrong
outputs_one : (y z : Bool) (past : List Bool) (k : ℕ) → k < 2 → disagreements (outputs dcch (z ∷ past)) (flipped k (outputs dcch (y ∷ past))) ≡ 1
unfolding tapped
outputs_one y z past k h = pair_one y z _ _ k h

-- ---- the pairs before
disagreements-append : (u w u' w' : List Bool) → length u ≡ length w → disagreements (u ++ u') (w ++ w') ≡ disagreements u w + disagreements u' w'
unfolding tally
disagreements-append [] [] u' w' l = sym (zero-add (disagreements u' w'))
disagreements-append [] (b ∷ w) u' w' l = absurd (omega arith)
disagreements-append (a ∷ u) [] u' w' l = absurd (omega arith)
disagreements-append (a ∷ u) (b ∷ w) u' w' l =
    ap (λ (n : ℕ). disagreement a b + n) (disagreements-append u w u' w' (omega arith)) ∙ sym (add_assoc (disagreement a b) (disagreements u w) (disagreements u' w'))

coded_last : (m v : List Bool) (x : Bool) → coded dcch m (v ++ (x ∷ [])) ≡ coded dcch m v ++ outputs dcch (x ∷ (reverse v ++ m))
unfolding coded
coded_last m v x = coded-append dcch m v (x ∷ [])

split_last : (w : List Bool) → length w ≡ 66 → w ≡ take 65 w ++ (get_or w 65 false ∷ [])
split_last w size = sym (take_all 66 w (omega arith)) ∙ take-suc w 65 false (omega arith)

-- ---- v and then x, from the memory m, with the bit k of the last pair wrong
module _ (m v : List Bool) (hm : length m ≡ 5) (size : length v ≡ 65) (x : Bool) (k : ℕ) (hk : k < 2) where
  wrong : List Bool
  wrong = coded dcch m v ++ flipped k (outputs dcch (x ∷ (reverse v ++ m)))

  module _ (n u : List Bool) (hu : length u ≡ 65) (z : Bool) where
    as_long : length (coded dcch n u) ≡ length (coded dcch m v)
    as_long = coded-length dcch n u ∙ ap (λ (i : ℕ). i * 2) (hu ∙ sym size) ∙ sym (coded-length dcch m v)

    in_parts : disagreements (coded dcch n (u ++ (z ∷ []))) wrong
        ≡ disagreements (coded dcch n u) (coded dcch m v) + disagreements (outputs dcch (z ∷ (reverse u ++ n))) (flipped k (outputs dcch (x ∷ (reverse v ++ m))))
    unfolding wrong
    in_parts =
        ap (λ (l : List Bool). disagreements l wrong) (coded_last n u z)
        ∙ disagreements-append (coded dcch n u) (coded dcch m v) _ _ as_long

    at_least_one : length n ≡ 5 → 1 ≤ disagreements (coded dcch n (u ++ (z ∷ []))) wrong
    at_least_one hn = elim (ℕ_discrete (disagreements (coded dcch n u) (coded dcch m v)) 0) [
      | yes e ↦
          let same = unique n m u v hn hm (omega arith) (disagreements_none (coded dcch n u) (coded dcch m v) as_long e) in
          let o : disagreements (outputs dcch (z ∷ (reverse u ++ n))) (flipped k (outputs dcch (x ∷ (reverse v ++ m)))) ≡ 1 =
          ap₂ (λ (i j : List Bool). disagreements (outputs dcch (z ∷ (reverse i ++ j))) (flipped k (outputs dcch (x ∷ (reverse v ++ m))))) same.0 same.1
          ∙ outputs_one x z (reverse v ++ m) k hk in
          omega (arith, in_parts)
      | no ne ↦ omega (arith, in_parts)
    ]

  one_away : (z : Bool) → disagreements (coded dcch m (v ++ (z ∷ []))) wrong ≡ 1
  one_away z = omega (arith, in_parts m v size z, disagreements_self (coded dcch m v), outputs_one x z (reverse v ++ m) k hk)

-- ---- and so two words are nearest
module _ (s : ℕ) (hs : s < 32) (v : List Bool) (size : length v ≡ 65) (x : Bool) (k : ℕ) (hk : k < 2) where
  received : List Bool
  received = wrong (memory_high s) v refl size x k hk

  -- newest first
  word : Bool → List Bool
  word z = reverse (v ++ (z ∷ []))

  light : (z : Bool) → free_weight received (word z) ≤ 1
  unfolding received word
  light z =
      let e : from s received (word z) ≡ 1 =
      ap (λ (u : List Bool). disagreements (coded dcch (memory_high s) u) received) (reverse-reverse (v ++ (z ∷ []))) ∙ one_away (memory_high s) v refl size x k hk z in
      omega (arith, weight_le received (word z) s hs)

  heavy : (u : List Bool) → length u ≡ 66 → 1 ≤ free_weight received u
  unfolding received
  heavy u hu =
      let t = weight_at received u in
      let hr : length (reverse u) ≡ 66 = length-reverse u ∙ hu in
      let e : from t.0 received u ≡ disagreements (coded dcch (memory_high t.0) (take 65 (reverse u) ++ (get_or (reverse u) 65 false ∷ []))) received =
      ap (λ (w : List Bool). disagreements (coded dcch (memory_high t.0) w) received) (split_last (reverse u) hr) in
      omega (arith, t.2, at_least_one (memory_high s) v refl size x k hk (memory_high t.0) (take 65 (reverse u)) (length-take-le 65 (reverse u) (omega arith)) (get_or (reverse u) 65 false) refl)

  nearest : (z : Bool) → Nearest (OfLength 66) (free_weight received) (word z)
  unfolding word
  nearest z =
      record {
        word = length-reverse (v ++ (z ∷ [])) ∙ length-append v (z ∷ []) ∙ ap (λ (n : ℕ). n + 1) size;
        least = λ u hu. omega (arith, light z, heavy u hu);
      }

  both : Ambiguous (OfLength 66) (free_weight received)
  unfolding word
  both =
      record {
        one = word false;
        other = word true;
        one_nearest = nearest false;
        other_nearest = nearest true;
        distinct = λ e.
            let same : v ++ (false ∷ []) ≡ v ++ (true ∷ []) = sym (reverse-reverse _) ∙ ap reverse e ∙ reverse-reverse _ in
            let last : false ∷ [] ≡ true ∷ [] = append_cancel_left v (false ∷ []) (true ∷ []) same in
            false≢true (cc);
      }

  -- what was received is the coded bits with one inverted
  received_is : flipped (130 + k) (coded dcch (memory_high s) (v ++ (x ∷ []))) ≡ received
  unfolding received wrong
  received_is =
      let e : 130 + k ≡ length (coded dcch (memory_high s) v) + k = ap (λ (n : ℕ). n + k) (sym (coded-length dcch (memory_high s) v ∙ ap (λ (n : ℕ). n * 2) size)) in
      ap₂ flipped e (coded_last (memory_high s) v x) ∙ flipped_after (coded dcch (memory_high s) v) _ k

-- any word of 66 bits, from any memory
pub last_of_66 : (s : ℕ) → s < 32 → (w : List Bool) → length w ≡ 66 → (k : ℕ) → 130 ≤ k → k < 132 → (dvcc : ℕ)
    → decode_of (flipped k (coded dcch (memory_high s) w)) dvcc ≡ Err refusal.Ambiguous
last_of_66 s hs w size k lo hi dvcc =
    let v : List Bool = take 65 w in
    let x : Bool = get_or w 65 false in
    let hv : length v ≡ 65 = length-take-le 65 w (omega arith) in
    let hk : k - 130 < 2 = omega arith in
    ap (λ (l : List Bool). decode_of l dvcc)
    (ap₂ (λ (i : ℕ) (u : List Bool). flipped i (coded dcch (memory_high s) u)) (omega arith) (split_last w size) ∙ received_is s hs v hv x (k - 130) hk)
    ∙ ambiguous (received s hs v hv x (k - 130) hk) dvcc (both s hs v hv x (k - 130) hk)

-- a message's word, with either bit of its last pair wrong
pub last_pair : (continuation : Bool) (message dvcc s : ℕ) → s < 32 → (k : ℕ) → 130 ≤ k → k < 132
    → decode_of (flipped k (coded dcch (memory_high s) (word_of continuation message dvcc))) dvcc ≡ Err refusal.Ambiguous
last_pair continuation message dvcc s hs k lo hi = last_of_66 s hs (word_of continuation message dvcc) (word-length continuation message dvcc) k lo hi dvcc
