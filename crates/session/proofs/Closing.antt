-- The totals, and the `C` lines as a loop writes them. Assumes nothing.
use mathlib.Core.Path.{◌≡◌, refl, sym, ap, ap₂, subst, ◌∙◌}
use mathlib.Core.Bool.{Bool, true, false, cond}
use mathlib.Core.List.{List, [], ◌∷◌, ◌++◌, append-nil, append_assoc}
use Prim.Native.Nat.{ℕ, ◌+◌, ◌*◌, ◌≤◌}
use native.Mathlib.Numerals.{add-one}
use native.Mathlib.Omega.{arith}
use lib.Dec.{eqb}
use lib.ListN.{length, get_or}
use Rattle.lines.specs.Printing.{code_text}
use Rattle.session.specs.Totals.{code_line, code_lines, count_of, code_texts, lowest_first}

-- ---- the lines of many
module _ (words : ℕ → ℕ) where
  lines_append : (us ws : List ℕ) → code_texts words (us ++ ws) ≡ code_texts words us ++ code_texts words ws
  unfolding code_texts
  lines_append [] ws = refl
  lines_append (u ∷ us) ws =
      ap (λ (l : List ℕ). code_text u (words u) ++ l) (lines_append us ws)
      ∙ sym (append_assoc (code_text u (words u)) (code_texts words us) (code_texts words ws))

  lines_one : (d : ℕ) → code_texts words (cond (eqb (words d) 0) [] (d ∷ [])) ≡ code_line d (words d)
  unfolding code_texts code_line
  lines_one d = by (eqb (words d) 0)
    where
      by : (t : Bool) → code_texts words (cond t [] (d ∷ [])) ≡ cond t [] (code_text d (words d))
      by true = refl
      by false = append-nil (code_text d (words d))

  lines_more : (d : ℕ) → code_texts words (lowest_first (d + 1) words) ≡ code_texts words (lowest_first d words) ++ code_line d (words d)
  unfolding lowest_first
  lines_more d =
      ap (λ (n : ℕ). code_texts words (lowest_first n words)) (add-one d)
      ∙ lines_append (lowest_first d words) (cond (eqb (words d) 0) [] (d ∷ []))
      ∙ ap (λ (l : List ℕ). code_texts words (lowest_first d words) ++ l) (lines_one d)

-- the loop of `put_codes`: the lines of the codes below d are written
pub record Listing (counts before page : List ℕ) (d : ℕ) : Type 0 where
  pub room : length page ≤ length before + 26 * d
  pub text : page ≡ before ++ code_texts (count_of counts) (lowest_first d (count_of counts))

module _ {counts before : List ℕ} where
  pub listing_none : Listing counts before before 0
  unfolding code_texts lowest_first
  listing_none = record { room = omega arith; text = sym (append-nil before) }

  module _ {page : List ℕ} {d : ℕ} (p : Listing counts before page d) where
    pub listing_more : {page' : List ℕ} {n : ℕ} → n ≡ get_or counts d 0 → page' ≡ page ++ code_line d n → length page' ≤ length page + 26
        → Listing counts before page' (d + 1)
    listing_more {page'} {n} e q room =
        let texts : ℕ → List ℕ = λ k. code_texts (count_of counts) (lowest_first k (count_of counts)) in
        record {
          room = omega (arith, p.room);
          text =
              q ∙ ap₂ (λ (l : List ℕ) (k : ℕ). l ++ code_line d k) p.text e ∙ append_assoc before (texts d) (code_line d (get_or counts d 0))
              ∙ ap (λ (l : List ℕ). before ++ l) (sym (lines_more (count_of counts) d));
        }

    pub listing_done : d ≡ 256 → page ≡ before ++ code_lines (count_of counts)
    unfolding code_lines
    listing_done e = subst (λ (n : ℕ). page ≡ before ++ code_texts (count_of counts) (lowest_first n (count_of counts))) e p.text
