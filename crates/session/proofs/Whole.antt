-- Byte by byte the output is that of the whole input. Assumes nothing.
use mathlib.Core.Path.{◌≡◌, refl, sym, ap, ◌∙◌}
use mathlib.Core.Bool.{Bool, true, false, cond}
use mathlib.Core.List.{List, [], ◌∷◌, ◌++◌, append_assoc, append-nil}
use Prim.Native.Nat.{ℕ, zero, suc}
use native.Mathlib.Numerals.{sub-one}
use lib.Dec.{eqb, eqb-suc-zero}
use lib.ListN.{length, take}
use lib.Seq.{take-nil}
use Rattle.session.specs.Output.{State, next, said, after, spoken, lines_from, lines_of, lines_read, fresh, final_state, output}
use Rattle.session.specs.Totals.{closing}
use Rattle.session.specs.Scanning.{Scan, ended, end_said, grown, byte_seen, byte_said, seen, bytes_said, closed, close_said}
use Rattle.session.specs.Sessions.{at_start, end_text}
use Rattle.session.proofs.Cut.{next_cut, said_cut}

-- ---- parts of the input one after the other
pub seen_then : (xs ys : List ℕ) (c : Scan) → seen c (xs ++ ys) ≡ seen (seen c xs) ys
unfolding seen
seen_then [] ys c = refl
seen_then (x ∷ xs) ys c = seen_then xs ys (byte_seen c x)

pub bytes-said_then : (xs ys : List ℕ) (c : Scan) → bytes_said c (xs ++ ys) ≡ bytes_said c xs ++ bytes_said (seen c xs) ys
unfolding seen bytes_said
bytes-said_then [] ys c = refl
bytes-said_then (x ∷ xs) ys c =
    ap (λ (r : List ℕ). byte_said c x ++ r) (bytes-said_then xs ys (byte_seen c x))
    ∙ sym (append_assoc (byte_said c x) (bytes_said (byte_seen c x) xs) (bytes_said (seen (byte_seen c x) xs) ys))

-- ---- a line so far, cut to 137 characters
pub take-grown : (n : ℕ) (l : List ℕ) (b : ℕ) → take n (take n l ++ (b ∷ [])) ≡ take n (l ++ (b ∷ []))
take-grown zero l b = refl
take-grown (suc n) [] b = refl
take-grown (suc n) (x ∷ l) b = ap (λ (r : List ℕ). x ∷ r) (take-grown n l b)

abbrev pub scan : ℕ → State → List ℕ → Scan
scan k s part = record { left = k; state = s; part = take 137 part }

grown_cut : (k : ℕ) (s : State) (part : List ℕ) (b : ℕ) → grown (scan k s part) b ≡ scan k s (part ++ (b ∷ []))
unfolding grown
grown_cut k s part b = ap (λ (p : List ℕ). record { left = k; state = s; part = p }) (take-grown 137 part b)

-- ---- the end of a line, with none left to read and with some left
end_none : (s : State) (part : List ℕ) → ended (scan zero s part) ≡ scan zero s []
unfolding ended
end_none s part = refl

end_some : (k : ℕ) (s : State) (part : List ℕ) → ended (scan (suc k) s part) ≡ scan k (next s part) []
unfolding ended
end_some k s part = rw (eqb-suc-zero k, sub-one (suc k)) (ap (λ (x : State). record { left = k; state = x; part = [] }) (next_cut s part))

end_said_lem : (k : ℕ) (s : State) (part : List ℕ) → end_said (scan (suc k) s part) ≡ said s part
unfolding end_said
end_said_lem k s part = rw (eqb-suc-zero k) (said_cut s part)

end_said_none : (s : State) (part : List ℕ) → end_said (scan zero s part) ≡ []
unfolding end_said
end_said_none s part = refl

-- ---- the end of the input
close_empty : (k : ℕ) (s : State) → close_said (scan k s []) ≡ []
unfolding close_said
close_empty k s = refl

close_part : (k : ℕ) (s : State) (p : ℕ) (part : List ℕ) → close_said (scan k s (p ∷ part)) ≡ end_said (scan k s (p ∷ part))
unfolding close_said
close_part k s p part = rw (eqb-suc-zero (length (take 136 part)))

closed_empty : (k : ℕ) (s : State) → closed (scan k s []) ≡ s
unfolding closed
closed_empty k s = refl

closed_part : (k : ℕ) (s : State) (p : ℕ) (part : List ℕ) → closed (scan k s (p ∷ part)) ≡ (ended (scan k s (p ∷ part))).state
unfolding closed
closed_part k s p part = rw (eqb-suc-zero (length (take 136 part)))

pub lines_part : (p : ℕ) (part : List ℕ) → lines_from (p ∷ part) [] ≡ (p ∷ part) ∷ []
unfolding lines_from
lines_part p part = rw (eqb-suc-zero (length part))

last_said : (k : ℕ) (s : State) (part : List ℕ) → spoken s (take k (lines_from part [])) ≡ close_said (scan k s part)
unfolding spoken lines_from
last_said k s [] = ap (spoken s) (take-nil k) ∙ sym (close_empty k s)
last_said zero s (p ∷ part) = sym (close_part zero s p part ∙ end_said_none s (p ∷ part))
last_said (suc k) s (p ∷ part) =
    ap (λ (ls : List (List ℕ)). spoken s (take (suc k) ls)) (lines_part p part)
    ∙ ap (λ (ls : List (List ℕ)). said s (p ∷ part) ++ spoken (next s (p ∷ part)) ls) (take-nil k)
    ∙ append-nil (said s (p ∷ part)) ∙ sym (close_part (suc k) s p part ∙ end_said_lem k s (p ∷ part))

last_state : (k : ℕ) (s : State) (part : List ℕ) → after s (take k (lines_from part [])) ≡ closed (scan k s part)
unfolding after lines_from
last_state k s [] = ap (after s) (take-nil k) ∙ sym (closed_empty k s)
last_state zero s (p ∷ part) = sym (closed_part zero s p part ∙ ap (λ (c : Scan). c.state) (end_none s (p ∷ part)))
last_state (suc k) s (p ∷ part) =
    ap (λ (ls : List (List ℕ)). after s (take (suc k) ls)) (lines_part p part)
    ∙ ap (λ (ls : List (List ℕ)). after (next s (p ∷ part)) ls) (take-nil k)
    ∙ sym (closed_part (suc k) s p part ∙ ap (λ (c : Scan). c.state) (end_some k s (p ∷ part)))

-- ---- one byte more, the rest being right for every scan
abbrev all_said : Scan → List ℕ → List ℕ
all_said c input = bytes_said c input ++ close_said (seen c input)

abbrev end_state : Scan → List ℕ → State
end_state c input = closed (seen c input)

abbrev SaidRight : List ℕ → Type 0
SaidRight rest = (k : ℕ) (s : State) (part : List ℕ) → spoken s (take k (lines_from part rest)) ≡ all_said (scan k s part) rest

said_end : (rest : List ℕ) → SaidRight rest → (k : ℕ) (s : State) (part : List ℕ)
    → spoken s (take k (part ∷ lines_from [] rest)) ≡ end_said (scan k s part) ++ all_said (ended (scan k s part)) rest
unfolding spoken
said_end rest ih zero s part =
    ih zero s [] ∙ ap (λ (c : Scan). all_said c rest) (sym (end_none s part))
    ∙ ap (λ (x : List ℕ). x ++ all_said (ended (scan zero s part)) rest) (sym (end_said_none s part))
said_end rest ih (suc k) s part =
    ap (λ (x : List ℕ). said s part ++ x) (ih k (next s part) [] ∙ ap (λ (c : Scan). all_said c rest) (sym (end_some k s part)))
    ∙ ap (λ (x : List ℕ). x ++ all_said (ended (scan (suc k) s part)) rest) (sym (end_said_lem k s part))

said-byte : (t : Bool) (rest : List ℕ) → SaidRight rest → (k : ℕ) (s : State) (part : List ℕ) (b : ℕ)
    → spoken s (take k (cond t (part ∷ lines_from [] rest) (lines_from (part ++ (b ∷ [])) rest)))
    ≡ cond t (end_said (scan k s part)) [] ++ all_said (cond t (ended (scan k s part)) (grown (scan k s part) b)) rest
said-byte true rest ih k s part b = said_end rest ih k s part
said-byte false rest ih k s part b = ih k s (part ++ (b ∷ [])) ∙ ap (λ (c : Scan). all_said c rest) (sym (grown_cut k s part b))

whole_said : (input : List ℕ) → SaidRight input
unfolding lines_from bytes_said seen byte_seen byte_said
whole_said [] k s part = last_said k s part
whole_said (b ∷ rest) k s part =
    let c : Scan = scan k s part in
    let d : Scan = byte_seen c b in
    said-byte (eqb b 10) rest (whole_said rest) k s part b
    ∙ sym (append_assoc (byte_said c b) (bytes_said d rest) (close_said (seen d rest)))

abbrev StateRight : List ℕ → Type 0
StateRight rest = (k : ℕ) (s : State) (part : List ℕ) → after s (take k (lines_from part rest)) ≡ end_state (scan k s part) rest

state_end : (rest : List ℕ) → StateRight rest → (k : ℕ) (s : State) (part : List ℕ)
    → after s (take k (part ∷ lines_from [] rest)) ≡ end_state (ended (scan k s part)) rest
unfolding after
state_end rest ih zero s part = ih zero s [] ∙ ap (λ (c : Scan). end_state c rest) (sym (end_none s part))
state_end rest ih (suc k) s part = ih k (next s part) [] ∙ ap (λ (c : Scan). end_state c rest) (sym (end_some k s part))

state_byte : (t : Bool) (rest : List ℕ) → StateRight rest → (k : ℕ) (s : State) (part : List ℕ) (b : ℕ)
    → after s (take k (cond t (part ∷ lines_from [] rest) (lines_from (part ++ (b ∷ [])) rest)))
    ≡ end_state (cond t (ended (scan k s part)) (grown (scan k s part) b)) rest
state_byte true rest ih k s part b = state_end rest ih k s part
state_byte false rest ih k s part b = ih k s (part ++ (b ∷ [])) ∙ ap (λ (c : Scan). end_state c rest) (sym (grown_cut k s part b))

whole_state : (input : List ℕ) → StateRight input
unfolding lines_from seen byte_seen
whole_state [] k s part = last_state k s part
whole_state (b ∷ rest) k s part = state_byte (eqb b 10) rest (whole_state rest) k s part b

-- ---- byte by byte, and the end after them, it is the output of the definition
pub whole : (input : List ℕ) → output input ≡ bytes_said at_start input ++ end_text (seen at_start input)
unfolding output lines_read final_state lines_of end_text at_start
whole input =
    ap (λ (x : List ℕ). x ++ closing (final_state input).tally (final_state input).counts)
    (whole_said input 1000000 fresh [])
    ∙ ap (λ (x : State). (bytes_said at_start input ++ close_said (seen at_start input)) ++ closing x.tally x.counts) (whole_state input 1000000 fresh [])
    ∙ append_assoc (bytes_said at_start input) (close_said (seen at_start input)) (closing (closed (seen at_start input)).tally (closed (seen at_start input)).counts)
