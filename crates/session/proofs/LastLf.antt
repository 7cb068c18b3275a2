-- An LF after an input changes nothing: it ends the last line, or adds an empty one, which is skipped. Assumes nothing.
use mathlib.Core.Path.{◌≡◌, refl, ap, ap₂}
use mathlib.Core.Bool.{Bool, true, false, cond}
use mathlib.Core.List.{List, [], ◌∷◌, ◌++◌}
use Prim.Native.Nat.{ℕ, zero, suc}
use native.Mathlib.Omega.{arith}
use lib.Dec.{eqb}
use lib.ListN.{take}
use lib.Seq.{take-nil}
use Rattle.session.specs.Output.{State, after, final_state, fresh, lines_from, lines_of, lines_read, next, output, said, spoken}
use Rattle.session.specs.Totals.{closing}
use Rattle.session.proofs.BlankLines.{length_first}
use Rattle.session.proofs.Whole.{lines_part}

-- as many of the one lines and of the others write the same and leave the same state
record Alike (ls ms : List (List ℕ)) : Type 0 where
  written : (k : ℕ) (s : State) → spoken s (take k ls) ≡ spoken s (take k ms)
  left : (k : ℕ) (s : State) → after s (take k ls) ≡ after s (take k ms)

alike_after : (l : List ℕ) {ls ms : List (List ℕ)} → Alike ls ms → Alike (l ∷ ls) (l ∷ ms)
unfolding spoken after
alike_after l {ls} {ms} a = record { written = said-after; left = state_after_lem }
  where
    said-after : (k : ℕ) (s : State) → spoken s (take k (l ∷ ls)) ≡ spoken s (take k (l ∷ ms))
    said-after zero s = refl
    said-after (suc k) s = ap (λ (x : List ℕ). said s l ++ x) (a.written k (next s l))

    state_after_lem : (k : ℕ) (s : State) → after s (take k (l ∷ ls)) ≡ after s (take k (l ∷ ms))
    state_after_lem zero s = refl
    state_after_lem (suc k) s = a.left k (next s l)

empty_line : Alike ([] ∷ []) []
unfolding spoken after
empty_line = record { written = nothing_said; left = nothing_changed }
  where
    nothing_said : (k : ℕ) (s : State) → spoken s (take k ([] ∷ [])) ≡ spoken s (take k [])
    nothing_said zero s = refl
    nothing_said (suc k) s = rw (take-nil k) (rw (length_first.spaces s 0 (omega arith)).writes refl)

    nothing_changed : (k : ℕ) (s : State) → after s (take k ([] ∷ [])) ≡ after s (take k [])
    nothing_changed zero s = refl
    nothing_changed (suc k) s = rw (take-nil k) (length_first.spaces s 0 (omega arith)).keeps

-- the end of the input, by the line so far
end_alike : (part : List ℕ) → Alike (part ∷ []) (lines_from part [])
unfolding lines_from
end_alike [] = empty_line
end_alike (p ∷ part) = rw (lines_part p part) (record { written = λ k s. refl; left = λ k s. refl })

-- one byte more: an LF ends the line so far, any other byte goes on with it
byte_alike : (t : Bool) (part : List ℕ) {ls ms xs ys : List (List ℕ)} → Alike ls ms → Alike xs ys
    → Alike (cond t (part ∷ ls) xs) (cond t (part ∷ ms) ys)
byte_alike true part a b = alike_after part a
byte_alike false part a b = b

lf_alike : (input part : List ℕ) → Alike (lines_from part (input ++ 10 ∷ [])) (lines_from part input)
unfolding lines_from
lf_alike [] part = end_alike part
lf_alike (b ∷ rest) part = byte_alike (eqb b 10) part (lf_alike rest []) (lf_alike rest (part ++ (b ∷ [])))

pub last_lf : (input : List ℕ) → output (input ++ 10 ∷ []) ≡ output input
unfolding output lines_read final_state lines_of
last_lf input =
    let alike = lf_alike input [] in
    ap₂ (λ (x : List ℕ) (s : State). x ++ closing s.tally s.counts) (alike.written 1000000 fresh) (alike.left 1000000 fresh)
