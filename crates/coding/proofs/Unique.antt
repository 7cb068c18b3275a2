-- Two runs of six or more inputs with the same coded bits under DCCH's code are one, inputs and memories.
-- The generators have g0 + (g0 + g1) / D = D^5: the input that leaves the memory at a step is the sum of the step's first output and both outputs of
-- the next. Five of these show the memory, and from one memory the first output shows the input. Assumes nothing.
use mathlib.Core.Path.{◌≡◌, refl, sym, ap, ap₂, subst, ◌∙◌}
use mathlib.Core.Bool.{Bool, true, false}
use mathlib.Core.List.{List, [], ◌∷◌}
use Prim.Native.Nat.{ℕ, zero, suc, ◌*◌, ◌≤◌}
use native.Mathlib.Omega.{arith}
use lib.Dec.{T}
use lib.ListN.{length, get_or, drop, drop_of_length-le}
use Rattle.bits.specs.Bits.{◌⊕◌}
use Rattle.bits.specs.Numbers.{packed, unpacked}
use Rattle.bits.proofs.Packed.{packed_below, unpacked-packed}
use Rattle.bits.proofs.Tested.{below, same_bit, same_bit_eq}
use Rattle.coding.specs.Codes.{tapped, outputs, coded, dcch}
use Rattle.coding.proofs.Coded.{coded-length}

-- ---- six steps show the memory
abbrev first : List Bool → Bool
first w = get_or (outputs dcch w) 0 false

abbrev second : List Bool → Bool
second w = get_or (outputs dcch w) 1 false

-- both outputs at the inputs w, newest first, and the first output of the step before
abbrev sum : List Bool → Bool
sum w = first (drop 1 w) ⊕ (first w ⊕ second w)

abbrev shows : List Bool → Bool
shows w = same_bit (sum w) (get_or w 6 false)

-- they show the input of six steps before, by a test over the words of seven bits
leaves : (a b c d e f g : Bool) (w : List Bool) → sum (a ∷ b ∷ c ∷ d ∷ e ∷ f ∷ g ∷ w) ≡ g
unfolding tapped unpacked
leaves a b c d e f g w =
    let v : List Bool = a ∷ b ∷ c ∷ d ∷ e ∷ f ∷ g ∷ [] in
    same_bit_eq (sum v) g
    (subst (λ (l : List Bool). T (shows l)) (unpacked-packed v) (below (λ k. shows (unpacked 7 k)) 128 tt (packed v) (packed_below v)))

record Same (m n u w : List Bool) : Type 0 where
  sent : coded dcch m u ≡ coded dcch n w

fifth : {x₁ x₂ x₃ x₄ x₅ y₁ y₂ y₃ y₄ y₅ b b' c c' : Bool} {r q u w : List Bool}
    → Same (x₁ ∷ x₂ ∷ x₃ ∷ x₄ ∷ x₅ ∷ r) (y₁ ∷ y₂ ∷ y₃ ∷ y₄ ∷ y₅ ∷ q) (b ∷ b' ∷ u) (c ∷ c' ∷ w)
    → (x₅ ≡ y₅) × Same (b ∷ x₁ ∷ x₂ ∷ x₃ ∷ x₄ ∷ x₅ ∷ r) (c ∷ y₁ ∷ y₂ ∷ y₃ ∷ y₄ ∷ y₅ ∷ q) (b' ∷ u) (c' ∷ w)
unfolding coded
fifth {x₁} {x₂} {x₃} {x₄} {x₅} {y₁} {y₂} {y₃} {y₄} {y₅} {b} {b'} {c} {c'} {r} {q} {u} {w} s =
    let m : List Bool = x₁ ∷ x₂ ∷ x₃ ∷ x₄ ∷ x₅ ∷ r in
    let n : List Bool = y₁ ∷ y₂ ∷ y₃ ∷ y₄ ∷ y₅ ∷ q in
    let e : coded dcch m (b ∷ b' ∷ u) ≡ coded dcch n (c ∷ c' ∷ w) = s.sent in
    let o : first (b ∷ m) ≡ first (c ∷ n) = cc in
    let o' : first (b' ∷ b ∷ m) ≡ first (c' ∷ c ∷ n) = cc in
    let p : second (b' ∷ b ∷ m) ≡ second (c' ∷ c ∷ n) = cc in
    (sym (leaves b' b x₁ x₂ x₃ x₄ x₅ r) ∙ ap₂ ◌⊕◌ o (ap₂ ◌⊕◌ o' p) ∙ leaves c' c y₁ y₂ y₃ y₄ y₅ q, record { sent = cc })

-- n inputs and then r
data After (r : List Bool) : ℕ → List Bool → Type 0 where
  none : After r 0 r
  more : {n : ℕ} {b : Bool} {w : List Bool} → After r n w → After r (suc n) (b ∷ w)

after : (n : ℕ) (w : List Bool) → n ≤ length w → After (drop n w) n w
after zero w h = none
after (suc n) [] h = absurd (omega arith)
after (suc n) (b ∷ w) h = more (after n w (omega arith))

five : (m : List Bool) → length m ≡ 5 → After [] 5 m
five m h = subst (λ (r : List Bool). After r 5 m) (drop_of_length-le m {i = 5} (omega arith)) (after 5 m (omega arith))

same_memory : {m n u w r q : List Bool} → After [] 5 m → After [] 5 n → After r 6 u → After q 6 w → coded dcch m u ≡ coded dcch n w → m ≡ n
same_memory (more (more (more (more (more none))))) (more (more (more (more (more none))))) (more (more (more (more (more (more none)))))) (more (more (more (more (more (more none)))))) e =
    let s = fifth (record { sent = e }) in
    let t = fifth s.1 in
    let x = fifth t.1 in
    let y = fifth x.1 in
    let z = fifth y.1 in
    cc (s.0, t.0, x.0, y.0, z.0)

-- ---- from one memory the first output shows the input
pub cancel : (a b c : Bool) → a ⊕ c ≡ b ⊕ c → a ≡ b
cancel false false c e = refl
cancel true true c e = refl
cancel false true false e = e
cancel false true true e = sym e
cancel true false false e = e
cancel true false true e = sym e

same_input : (b c : Bool) (m : List Bool) → first (b ∷ m) ≡ first (c ∷ m) → b ≡ c
unfolding tapped
same_input b c m e = cancel b c _ e

pub same_start : (m u w : List Bool) → coded dcch m u ≡ coded dcch m w → u ≡ w
unfolding coded
same_start m [] [] e = refl
same_start m [] (c ∷ w) e = let z : ◌≡◌ {A = ℕ} 0 1 = cc in absurd (omega arith)
same_start m (b ∷ u) [] e = let z : ◌≡◌ {A = ℕ} 0 1 = cc in absurd (omega arith)
same_start m (b ∷ u) (c ∷ w) e =
    let o : first (b ∷ m) ≡ first (c ∷ m) = cc in
    let r : coded dcch (b ∷ m) u ≡ coded dcch (c ∷ m) w = cc in
    let i : b ≡ c = same_input b c m o in
    ap₂ ◌∷◌ i (same_start (b ∷ m) u w (r ∙ ap (λ (x : Bool). coded dcch (x ∷ m) w) (sym i)))

pub unique : (m n u w : List Bool) → length m ≡ 5 → length n ≡ 5 → 6 ≤ length u → coded dcch m u ≡ coded dcch n w → (u ≡ w) × (m ≡ n)
unique m n u w hm hn h e =
    let l : length u * 2 ≡ length w * 2 = sym (coded-length dcch m u) ∙ ap length e ∙ coded-length dcch n w in
    let s : m ≡ n = same_memory (five m hm) (five n hn) (after 6 u h) (after 6 w (omega arith)) e in
    (same_start m u w (e ∙ ap (λ (x : List Bool). coded dcch x w) (sym s)), s)
