-- Interleaving keeps sums over places, and so disagreements: a distance between cells is one on the air. Assumes nothing.
use mathlib.Core.Path.{◌≡◌, refl, sym, ap, ap₂, ◌∙◌, subst}
use mathlib.Core.Bool.{Bool, false}
use mathlib.Core.List.{List, [], ◌∷◌, map}
use Prim.Native.Nat.{ℕ, ◌+◌, ◌<◌}
use native.Mathlib.Omega.{arith}
use lib.ListN.{length, get_or}
use Rattle.bits.specs.Bits.{tally, disagreements}
use Rattle.bits.specs.Places.{listed}
use Rattle.bits.proofs.Listed.{length-listed, get_d_listed, is_listed, map-listed}
use Rattle.dcch_interleaver.specs.declared.BlockFormat.{BlockFormat}
use Rattle.dcch_interleaver.specs.Formats.{encoded_bits}
use Rattle.dcch_interleaver.specs.Wire.{wire_order, cell_at, wire_of, interleaved, deinterleaved}
use Rattle.dcch_interleaver.proofs.Wiring.{order_length, wire_below, cell_of_wire}
use Rattle.dcch_interleaver.proofs.Interleaved.{interleaved_order, deinterleaved-length, interleaved-deinterleaved}
use Rattle.dcch_interleaver.proofs.Summed.{Among, among_at, summed, summed_below}

module _ {A B : Type 0} (g : A → B → ℕ) (d : A) (e : B) (xs : List A) (ys : List B) where
  -- what the place i of both lists adds
  abbrev at : ℕ → ℕ
  at i = g (get_or xs i d) (get_or ys i e)

  tally_places : (l : List ℕ) → tally g (map (λ (i : ℕ). get_or xs i d) l) (map (λ (i : ℕ). get_or ys i e) l) ≡ summed at l
  unfolding tally summed
  tally_places [] = refl
  tally_places (i ∷ l) = ap (λ (s : ℕ). at i + s) (tally_places l)

  -- a list is its elements in the order of its places
  in_order : {C : Type 0} (c : C) (zs : List C) (n : ℕ) → length zs ≡ n → zs ≡ map (λ (i : ℕ). get_or zs i c) (listed n (λ (i : ℕ). i))
  in_order c zs n l = is_listed n (λ (i : ℕ). get_or zs i c) c zs l (λ i h. refl) ∙ sym (map-listed (λ (i : ℕ). get_or zs i c) n (λ (i : ℕ). i))

  module _ (f : BlockFormat) (long : length xs ≡ encoded_bits f) (wide : length ys ≡ encoded_bits f) where
    each_sent : (x : ℕ) → x < encoded_bits f → Among x (wire_order f)
    unfolding cell_at
    each_sent x h =
        subst (λ (y : ℕ). Among y (wire_order f)) (cell_of_wire f x h) (among_at (wire_order f) (wire_of f x) (omega (arith, wire_below f x h, order_length f)))

    each_listed : (x : ℕ) → x < encoded_bits f → Among x (listed (encoded_bits f) (λ (i : ℕ). i))
    each_listed x h =
        let l : length (listed {A = ℕ} (encoded_bits f) (λ (i : ℕ). i)) ≡ encoded_bits f = length-listed (encoded_bits f) _ in
        subst (λ (y : ℕ). Among y (listed (encoded_bits f) (λ (i : ℕ). i))) (get_d_listed (encoded_bits f) _ 0 x h) (among_at (listed (encoded_bits f) (λ (i : ℕ). i)) x (omega arith))

    pub tally-interleaved : tally g (interleaved f d xs) (interleaved f e ys) ≡ tally g xs ys
    tally-interleaved =
        ap₂ (tally g) (interleaved_order f d xs) (interleaved_order f e ys) ∙ tally_places (wire_order f)
        ∙ summed_below at (encoded_bits f) (wire_order f) (order_length f) each_sent
        ∙ sym (ap₂ (tally g) (in_order d xs (encoded_bits f) long) (in_order e ys (encoded_bits f) wide) ∙ tally_places (listed (encoded_bits f) (λ (i : ℕ). i))
        ∙ summed_below at (encoded_bits f) (listed (encoded_bits f) (λ (i : ℕ). i)) (length-listed (encoded_bits f) _) each_listed)

-- cells against the cells of what was received are what is sent of them against what was received
pub tally_on_air : {A B : Type 0} (g : A → B → ℕ) (d : A) (e : B) (f : BlockFormat) (cells : List A) (wires : List B) → length cells ≡ encoded_bits f → length wires ≡ encoded_bits f
    → tally g cells (deinterleaved f e wires) ≡ tally g (interleaved f d cells) wires
tally_on_air g d e f cells wires l m =
    sym (tally-interleaved g d e cells (deinterleaved f e wires) f l (deinterleaved-length f e wires))
    ∙ ap (tally g (interleaved f d cells)) (interleaved-deinterleaved f e wires m)

pub interleaving_keeps_disagreements : (f : BlockFormat) (u w : List Bool) → length u ≡ encoded_bits f → length w ≡ encoded_bits f
    → disagreements (interleaved f false u) (interleaved f false w) ≡ disagreements u w
interleaving_keeps_disagreements f u w l m = tally-interleaved _ false false u w f l m
