-- The search's inputs, newest first, and the word, oldest first: each is the other's first five bits reversed and its other sixty reversed.
-- They have the same coded bits, so what is found among the inputs is found among the words. Assumes nothing.
use mathlib.Core.Path.{◌≡◌, sym, ap, ap₂, ◌∙◌}
use mathlib.Core.Bool.{Bool}
use mathlib.Core.List.{List, ◌++◌, reverse, reverse-append, reverse-reverse}
use Prim.Native.Nat.{ℕ, ◌+◌}
use native.Mathlib.Omega.{arith}
use lib.ListN.{length, take, drop, length-append, length-drop, length-reverse, length-map, take-append-drop}
use lib.Seq.{length-take-le, take_at, drop_at}
use Rattle.bits.specs.Bits.{byte, bytes, tally}
use Rattle.bits.proofs.Binary.{bytes-append}
use Rattle.coding.specs.Codes.{coded, facch}
use Rattle.trellis.specs.Search.{Nearest, Ambiguous, Found}
use Rattle.trellis.specs.Words.{OfLength}
use Rattle.trellis.specs.declared.Outcome.{Outcome}
use Rattle.tailbiting.specs.TailBiting.{tail_coded, tail_weight}
use Rattle.bits.specs.Observed.{erased_differ}
use Rattle.facch.specs.Words.{tail_biting}
use Rattle.facch.specs.Search.{weight, Searched}

abbrev turned : List Bool → List Bool
turned u = reverse (take 5 u) ++ reverse (drop 5 u)

module _ (u : List Bool) (size : length u ≡ 65) where
  five : length (reverse (take 5 u)) ≡ 5
  five = length-reverse (take 5 u) ∙ length-take-le 5 u (omega arith)

  sixty : length (reverse (drop 5 u)) ≡ 60
  sixty = length-reverse (drop 5 u) ∙ omega (arith, length-drop 5 u)

  turned_length : length (turned u) ≡ 65
  turned_length = length-append (reverse (take 5 u)) (reverse (drop 5 u)) ∙ ap₂ (λ (m n : ℕ). m + n) five sixty

  front : take 5 (turned u) ≡ reverse (take 5 u)
  front = take_at (reverse (take 5 u)) (reverse (drop 5 u)) 5 five

  back : drop 5 (turned u) ≡ reverse (drop 5 u)
  back = drop_at (reverse (take 5 u)) (reverse (drop 5 u)) 5 five

  turned_turned : turned (turned u) ≡ u
  turned_turned =
      ap₂ (λ (a b : List Bool). reverse a ++ reverse b) front back
      ∙ ap₂ (λ (a b : List Bool). a ++ b) (reverse-reverse (take 5 u)) (reverse-reverse (drop 5 u)) ∙ take-append-drop 5 u

  reversed : reverse u ≡ reverse (drop 5 u) ++ reverse (take 5 u)
  reversed = ap reverse (sym (take-append-drop 5 u)) ∙ reverse-append (take 5 u) (drop 5 u)

  turned_coded : tail_biting (turned u) ≡ tail_coded u
  unfolding tail_biting
  turned_coded =
      ap₂ (λ (a b : List Bool). coded facch (reverse a) (b ++ a)) front back
      ∙ ap₂ (λ (m i : List Bool). coded facch m i) (reverse-reverse (take 5 u)) (sym reversed)

  turned_weight : (received : List ℕ) → weight received (turned u) ≡ tail_weight received u
  unfolding weight tail_weight
  turned_weight received = ap (λ (l : List Bool). tally erased_differ l received) turned_coded

  -- the word that `nearest_word` writes of the inputs
  turned_bytes : (inputs : List ℕ) → inputs ≡ bytes (reverse u) → drop 60 inputs ++ take 60 inputs ≡ bytes (turned u)
  turned_bytes inputs e =
      let a : List Bool = reverse (take 5 u) in
      let b : List Bool = reverse (drop 5 u) in
      let s : inputs ≡ bytes b ++ bytes a = e ∙ ap bytes reversed ∙ bytes-append b a in
      let l : length (bytes b) ≡ 60 = length-map b byte ∙ sixty in
      ap₂ (λ (x y : List ℕ). x ++ y) (ap (drop 60) s ∙ drop_at (bytes b) (bytes a) 60 l) (ap (take 60) s ∙ take_at (bytes b) (bytes a) 60 l)
      ∙ sym (bytes-append a b)

module _ (received : List ℕ) where
  -- the weight of a word is that of its inputs
  weight_turned : (w : List Bool) → length w ≡ 65 → tail_weight received (turned w) ≡ weight received w
  weight_turned w h = sym (turned_weight (turned w) (turned_length w h) received) ∙ ap (weight received) (turned_turned w h)

  nearest_to : (u : List Bool) → Nearest (OfLength 65) (tail_weight received) u → Nearest (OfLength 65) (weight received) (turned u)
  nearest_to u n =
      record {
        word = turned_length u n.word;
        least = λ w h. omega (arith, n.least (turned w) (turned_length w h), turned_weight u n.word received, weight_turned w h);
      }

  nearest_from : (w : List Bool) → Nearest (OfLength 65) (weight received) w → Nearest (OfLength 65) (tail_weight received) (turned w)
  nearest_from w n =
      record {
        word = turned_length w n.word;
        least = λ u h. omega (arith, n.least (turned u) (turned_length u h), weight_turned w n.word, turned_weight u h received);
      }

  one_turned : (u w : List Bool) → length u ≡ 65 → length w ≡ 65 → turned u ≡ turned w → u ≡ w
  one_turned u w hu hw e = sym (turned_turned u hu) ∙ ap turned e ∙ turned_turned w hw

  ambiguous_to : Ambiguous (OfLength 65) (tail_weight received) → Ambiguous (OfLength 65) (weight received)
  ambiguous_to a =
      record {
        one = turned a.one;
        other = turned a.other;
        one_nearest = nearest_to a.one a.one_nearest;
        other_nearest = nearest_to a.other a.other_nearest;
        distinct = λ e. a.distinct (one_turned a.one a.other a.one_nearest.word a.other_nearest.word e);
      }

  ambiguous_from : Ambiguous (OfLength 65) (weight received) → Ambiguous (OfLength 65) (tail_weight received)
  ambiguous_from a =
      record {
        one = turned a.one;
        other = turned a.other;
        one_nearest = nearest_from a.one a.one_nearest;
        other_nearest = nearest_from a.other a.other_nearest;
        distinct = λ e. a.distinct (one_turned a.one a.other a.one_nearest.word a.other_nearest.word e);
      }

  pub searched : {inputs word : List ℕ} {r : Outcome} → Found (OfLength 65) (tail_weight received) inputs r → word ≡ drop 60 inputs ++ take 60 inputs → Searched received word r
  searched {inputs} f e =
      record {
        bits = turned f.word;
        written = e ∙ turned_bytes f.word f.nearest.word inputs f.written;
        nearest = nearest_to f.word f.nearest;
        metric = f.metric ∙ sym (turned_weight f.word f.nearest.word received);
        tied = λ t. ambiguous_to (f.tied t);
        alone = λ a. f.alone (ambiguous_from a);
      }

  pub inputs_length : {inputs : List ℕ} {r : Outcome} → Found (OfLength 65) (tail_weight received) inputs r → length inputs ≡ 65
  inputs_length f = ap length f.written ∙ length-map (reverse f.word) byte ∙ length-reverse f.word ∙ f.nearest.word
