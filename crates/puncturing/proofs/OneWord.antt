-- Two words that end in a zero and send the same bits are one. From one memory the first output of a step shows its input; where the step sends nothing,
-- the second output of the next shows that step's input, for it does not tap the one before, and the first output then shows the one before.
-- Assumes nothing.
use mathlib.Core.Path.{◌≡◌, refl, sym, ap, ap₂, ◌∙◌}
use mathlib.Core.Bool.{Bool, true, false}
use mathlib.Core.List.{List, [], ◌∷◌, ◌++◌, reverse, reverse-cons, reverse-reverse}
use Prim.Native.Nat.{ℕ, zero, suc}
use native.Mathlib.Omega.{arith}
use lib.ListN.{length, get_or, length-reverse}
use Rattle.bits.specs.Bits.{◌⊕◌}
use Rattle.coding.specs.Codes.{tapped, coded, acelp}
use Rattle.coding.proofs.Unique.{cancel}
use Rattle.trellis.specs.Words.{Terminated}
use Rattle.puncturing.specs.Punctured.{sent_of}
use Rattle.puncturing.proofs.Gaps.{kept, sent_mask, sent_kept}

-- ---- masks under which n inputs before the last are shown: each step that sends nothing is followed by one that sends, or is the last
data Shown : ℕ → List Bool → Type 0 where
  last : Shown 0 (false ∷ false ∷ [])
  sent : {n : ℕ} {mask : List Bool} → Shown n mask → Shown (suc n) (true ∷ true ∷ mask)
  gap : {n : ℕ} {mask : List Bool} → Shown n mask → Shown (suc (suc n)) (false ∷ false ∷ true ∷ true ∷ mask)

abbrev longer : ℕ → ℕ → ℕ
longer zero n = n
longer (suc k) n = suc (longer k n)

abbrev runs : ℕ → List Bool → List Bool
runs zero mask = mask
runs (suc k) mask = true ∷ true ∷ runs k mask

run : (k : ℕ) {n : ℕ} {mask : List Bool} → Shown n mask → Shown (longer k n) (runs k mask)
run zero t = t
run (suc k) t = sent (run k t)

all_shown : Shown 107 sent_mask
unfolding sent_mask
all_shown = run 26 (gap (run 25 (gap (run 25 (gap (run 25 last))))))

-- ---- one step, and two
cancel_left : (a b c : Bool) → a ⊕ b ≡ a ⊕ c → b ≡ c
cancel_left false b c e = e
cancel_left true false false e = refl
cancel_left true true true e = refl
cancel_left true false true e = sym e
cancel_left true true false e = sym e

-- the two steps' inputs, from the outputs of the second; x and y are what the older inputs make of them
both_shown : (a b c d x y : Bool) → a ⊕ (b ⊕ x) ≡ c ⊕ (d ⊕ x) → a ⊕ y ≡ c ⊕ y → (a ≡ c) × (b ≡ d)
both_shown a b c d x y first second =
    let e : a ≡ c = cancel a c y second in
    (e, cancel b d x (cancel_left c (b ⊕ x) (d ⊕ x) (ap (λ (z : Bool). z ⊕ (b ⊕ x)) (sym e) ∙ first)))

-- ---- all steps: the inputs u and w before the last ones, e
abbrev keeps : List Bool → List Bool → List Bool → List Bool → List Bool
keeps mask m u e = kept mask (coded acelp m (u ++ e))

same_inputs : {n : ℕ} {mask : List Bool} → Shown n mask → (m u w e : List Bool) → length u ≡ n → length w ≡ n → keeps mask m u e ≡ keeps mask m w e → u ≡ w
unfolding kept coded tapped
same_inputs last m [] [] e hu hw s = refl
same_inputs last m [] (c ∷ w) e hu hw s = absurd (omega arith)
same_inputs last m (b ∷ u) w e hu hw s = absurd (omega arith)
same_inputs (sent t) m [] w e hu hw s = absurd (omega arith)
same_inputs (sent t) m (b ∷ u) [] e hu hw s = absurd (omega arith)
same_inputs (sent {mask = mask} t) m (b ∷ u) (c ∷ w) e hu hw s =
    let o : get_or (keeps (true ∷ true ∷ mask) m (b ∷ u) e) 0 false ≡ get_or (keeps (true ∷ true ∷ mask) m (c ∷ w) e) 0 false = ap (λ (l : List Bool). get_or l 0 false) s in
    let i : b ≡ c = cancel b c _ o in
    let r : keeps mask (b ∷ m) u e ≡ keeps mask (c ∷ m) w e = cc in
    ap₂ (λ (x : Bool) (l : List Bool). x ∷ l) i (same_inputs t (b ∷ m) u w e (omega arith) (omega arith) (r ∙ ap (λ (x : Bool). keeps mask (x ∷ m) w e) (sym i)))
same_inputs (gap t) m [] w e hu hw s = absurd (omega arith)
same_inputs (gap t) m (b ∷ []) w e hu hw s = absurd (omega arith)
same_inputs (gap t) m (b ∷ b' ∷ u) [] e hu hw s = absurd (omega arith)
same_inputs (gap t) m (b ∷ b' ∷ u) (c ∷ []) e hu hw s = absurd (omega arith)
same_inputs (gap {mask = mask} t) m (b ∷ b' ∷ u) (c ∷ c' ∷ w) e hu hw s =
    let at : ℕ → List Bool → Bool = λ k l. get_or l k false in
    let i : (b' ≡ c') × (b ≡ c) = both_shown b' b c' c _ _ (ap (at 0) s) (ap (at 1) s) in
    let r : keeps mask (b' ∷ b ∷ m) u e ≡ keeps mask (c' ∷ c ∷ m) w e = cc in
    ap₂ (λ (x : Bool) (l : List Bool). x ∷ l) i.1
    (ap₂ (λ (x : Bool) (l : List Bool). x ∷ l) i.0
    (same_inputs t (b' ∷ b ∷ m) u w e (omega arith) (omega arith) (r ∙ ap₂ (λ (x y : Bool). keeps mask (x ∷ y ∷ m) w e) (sym i.0) (sym i.1))))

-- ---- words, newest first: the last input is a zero
ends : (a : Bool) (u : List Bool) → Terminated 108 (a ∷ u) → reverse (a ∷ u) ≡ reverse u ++ (false ∷ [])
ends a u h = reverse-cons a u ∙ ap (λ (x : Bool). reverse u ++ (x ∷ [])) (ap (λ (l : List Bool). get_or l 0 true) h.tail)

before : (a : Bool) (u : List Bool) → Terminated 108 (a ∷ u) → length (reverse u) ≡ 107
before a u h = length-reverse u ∙ omega (arith, h.steps)

pub sent_once : (m u w : List Bool) → Terminated 108 u → Terminated 108 w → sent_of (coded acelp m (reverse u)) ≡ sent_of (coded acelp m (reverse w)) → u ≡ w
sent_once m [] w hu hw s = absurd (omega (arith, hu.steps))
sent_once m (a ∷ u) [] hu hw s = absurd (omega (arith, hw.steps))
sent_once m (a ∷ u) (b ∷ w) hu hw s =
    let sends : List Bool → List Bool = λ l. sent_of (coded acelp m l) in
    let k : keeps sent_mask m (reverse u) (false ∷ []) ≡ keeps sent_mask m (reverse w) (false ∷ []) =
    sym (sent_kept _) ∙ ap sends (sym (ends a u hu)) ∙ s ∙ ap sends (ends b w hw) ∙ sent_kept _ in
    let r : reverse u ≡ reverse w = same_inputs all_shown m (reverse u) (reverse w) (false ∷ []) (before a u hu) (before b w hw) k in
    sym (reverse-reverse (a ∷ u)) ∙ ap reverse (ends a u hu ∙ ap (λ (l : List Bool). l ++ (false ∷ [])) r ∙ sym (ends b w hw)) ∙ reverse-reverse (b ∷ w)
