-- The `C` lines of an input: the counts of a run are the words of its answers, and their lines end the output. Assumes nothing.
use mathlib.Core.Path.{◌≡◌, refl, sym, ap, subst, fun_ext, ◌∙◌}
use mathlib.Core.Bool.{cond}
use mathlib.Core.List.{List, [], ◌∷◌, ◌++◌}
use Prim.Native.Nat.{ℕ, ◌+◌, ◌<◌, ◌≤◌}
use native.Mathlib.Decide.{dec_lt, ℕ_discrete}
use native.Mathlib.Nat.{add-zero, add_assoc, zero-add}
use native.Mathlib.Omega.{arith}
use borrow.Author.Tests.{eq-eqb, ne_eqb}
use lib.Dec.{eqb}
use lib.ListN.{length, get_or, length-set, get_or-replicate, get_or-eq_default}
use lib.Seq.{get_or-set_same, get_or-set_other}
use Rattle.sacch_receiver.specs.Receiver.{fresh_receiver}
use Rattle.sacch_receiver.specs.declared.SacchReceiver.{SacchReceiver}
use Rattle.session.specs.CodeLines.{CodeOrder, CodesAscending, replies, words_of, words_under}
use Rattle.session.specs.Output.{State, after, final_state, fresh, lines_read, next, output, spoken}
use Rattle.session.specs.Replies.{reply_to}
use Rattle.session.specs.Totals.{added_by, closing, code_lines, code_texts, count_of, counted, lowest_first, total_line}
use Rattle.session.proofs.CodeOrder.{lowest_first_lem, one_order}
use Rattle.session.proofs.Replying.{code_below}

-- ---- the counts of a run
counted_at : (counts : List ℕ) (dvcc n d : ℕ) → d < length counts → get_or (counted counts dvcc n) d 0 ≡ get_or counts d 0 + cond (eqb dvcc d) n 0
unfolding counted
counted_at counts dvcc n d h = elim (ℕ_discrete dvcc d) [
  | yes e ↦ rw (eq-eqb dvcc d e, e) (get_or-set_same counts d (get_or counts d 0 + n) 0 h)
  | no e ↦ rw (ne_eqb dvcc d e) (get_or-set_other counts dvcc d (get_or counts dvcc 0 + n) 0 (λ f. e (sym f)) ∙ sym (add-zero (get_or counts d 0)))
]

counts_length : (ls : List (List ℕ)) (s : State) → length (after s ls).counts ≡ length s.counts
unfolding after next counted
counts_length [] s = refl
counts_length (l ∷ ls) s = counts_length ls (next s l) ∙ length-set s.counts _ _

-- what a line adds to the words of the code d
abbrev added_under : SacchReceiver → List ℕ → ℕ → ℕ
added_under r l d = cond (eqb (reply_to r l).dvcc d) (added_by (reply_to r l).reply).words 0

counts_next : (s : State) (l : List ℕ) (d : ℕ) → d < length s.counts → get_or (next s l).counts d 0 ≡ get_or s.counts d 0 + added_under s.receiver l d
unfolding next
counts_next s l d h = counted_at s.counts (reply_to s.receiver l).dvcc (added_by (reply_to s.receiver l).reply).words d h

counts_after : (ls : List (List ℕ)) (s : State) (d : ℕ) → d < length s.counts → get_or (after s ls).counts d 0 ≡ get_or s.counts d 0 + words_under d (replies s.receiver ls)
unfolding after next replies words_under
counts_after [] s d h = sym (add-zero (get_or s.counts d 0))
counts_after (l ∷ ls) s d h =
    let rest = words_under d (replies (next s l).receiver ls) in
    counts_after ls (next s l) d (subst (λ (n : ℕ). d < n) (sym (counts_length (l ∷ []) s)) h)
    ∙ ap (λ (n : ℕ). n + rest) (counts_next s l d h) ∙ add_assoc (get_or s.counts d 0) (added_under s.receiver l d) rest

-- no line is under a code above 255
none_past : (ls : List (List ℕ)) (r : SacchReceiver) (d : ℕ) → 256 ≤ d → words_under d (replies r ls) ≡ 0
unfolding replies words_under
none_past [] r d h = refl
none_past (l ∷ ls) r d h =
    let low = code_below r l in
    rw (ne_eqb (reply_to r l).dvcc d (λ e. let z : ⊥ = omega arith in z), none_past ls (reply_to r l).receiver d h) refl

counts_words : (input : List ℕ) → count_of (final_state input).counts ≡ words_of input
unfolding final_state words_of fresh
counts_words input = fun_ext (λ d. elim (dec_lt d 256) [
  | yes h ↦ counts_after ls fresh d h ∙ rw (get_or-replicate {A = ℕ} 256 d 0 0 h) (zero-add (words_under d (replies fresh_receiver ls)))
  | no h ↦ past d (omega arith)
])
  where
    ls : List (List ℕ)
    ls = lines_read input

    past : (d : ℕ) → 256 ≤ d → get_or (after fresh ls).counts d 0 ≡ words_under d (replies fresh_receiver ls)
    past d h =
        let long : length (after fresh ls).counts ≤ d = omega (arith, counts_length ls fresh) in
        get_or-eq_default (after fresh ls).counts 0 long ∙ sym (none_past ls fresh_receiver d h)

-- ---- THE RULE of the `C` lines
ordered : (input : List ℕ) → CodeOrder (words_of input) (lowest_first 256 (words_of input))
unfolding words_of
ordered input = lowest_first_lem (words_of input) (none_past (lines_read input) fresh_receiver)

lines_written : (input codes : List ℕ) → CodeOrder (words_of input) codes
    → output input ≡ spoken fresh (lines_read input) ++ (total_line (final_state input).tally ++ code_texts (words_of input) codes)
unfolding output closing code_lines
lines_written input codes p =
    let end : List ℕ → List ℕ = λ l. spoken fresh (lines_read input) ++ (total_line (final_state input).tally ++ l) in
    ap (λ (words : ℕ → ℕ). end (code_lines words)) (counts_words input) ∙ ap (λ (order : List ℕ). end (code_texts (words_of input) order)) (one_order (ordered input) p)

-- an input ends with the lines of any other that has as many words under each code
pub same_lines : (a b codes : List ℕ) → ((d : ℕ) → words_of a d ≡ words_of b d) → CodeOrder (words_of a) codes
    → output b ≡ spoken fresh (lines_read b) ++ (total_line (final_state b).tally ++ code_texts (words_of a) codes)
same_lines a b codes e p =
    rw (fun_ext e) (lines_written b codes (subst (λ (words : ℕ → ℕ). CodeOrder words codes) (fun_ext e) p))

pub codes_ascending : CodesAscending
codes_ascending =
    record {
      exists = λ input. (lowest_first 256 (words_of input), ordered input);
      unique = λ words a b. one_order;
      written = lines_written;
    }
