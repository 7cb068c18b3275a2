-- Both numberings are those of a shift register, and mirrors of each other: each law is a test over the 32 states. Assumes nothing.
use mathlib.Core.Path.{◌≡◌, refl, sym, ap, ◌∙◌}
use mathlib.Core.Bool.{Bool, true, false}
use mathlib.Core.List.{List, [], ◌∷◌, ◌++◌}
use Prim.Native.Nat.{ℕ, ◌+◌, ◌*◌, ◌/◌, ◌%◌, ◌<◌}
use lib.Dec.{T, eqb, eqb→eq, ltb, ltb→lt}
use lib.ListN.{length}
use Rattle.bits.specs.Bits.{byte}
use Rattle.coding.specs.Registers.{mirror}
use Rattle.coding.proofs.Mirror.{mirror-mirror}
use Rattle.trellis.specs.Numbering.{Numbering, newest_low, newest_high}
use Rattle.bits.proofs.Tested.{below_bit, below, every, same_bit, same_bit_eq, same_bits, same_bits_eq}

-- what makes a numbering that of a shift register of 32 states
pub record Register (N : Numbering) : Type 0 where
  pub pred_below : (t : ℕ) (b : Bool) → t < 32 → N.pred t b < 32
  pub next_below : (s : ℕ) (b : Bool) → s < 32 → N.next s b < 32
  pub next_pred : (t : ℕ) (b : Bool) → t < 32 → N.next (N.pred t b) (N.newest t) ≡ t
  pub pred_next : (s : ℕ) (b : Bool) → s < 32 → N.pred (N.next s b) (N.oldest s) ≡ s
  pub newest_next : (s : ℕ) (b : Bool) → s < 32 → N.newest (N.next s b) ≡ b
  pub shifted : (t : ℕ) (b : Bool) → t < 32 → N.memory t ++ (b ∷ []) ≡ N.newest t ∷ N.memory (N.pred t b)
  pub five : (t : ℕ) → length (N.memory t) ≡ 5
  pub memory_one : (s t : ℕ) → s < 32 → t < 32 → N.memory s ≡ N.memory t → s ≡ t

-- the tests of a numbering
module _ (N : Numbering) where
  abbrev pred_test : Bool → ℕ → Bool
  pred_test b t = ltb (N.pred t b) 32

  abbrev next_test : Bool → ℕ → Bool
  next_test b s = ltb (N.next s b) 32

  abbrev next_pred_test : Bool → ℕ → Bool
  next_pred_test b t = eqb (N.next (N.pred t b) (N.newest t)) t

  abbrev pred_next_test : Bool → ℕ → Bool
  pred_next_test b s = eqb (N.pred (N.next s b) (N.oldest s)) s

  abbrev newest_test : Bool → ℕ → Bool
  newest_test b s = same_bit (N.newest (N.next s b)) b

  abbrev shifted_test : Bool → ℕ → Bool
  shifted_test b t = same_bits (N.memory t ++ (b ∷ [])) (N.newest t ∷ N.memory (N.pred t b))

  abbrev Passes : (Bool → ℕ → Bool) → Type 0
  Passes f = T (every (f false) 32) × T (every (f true) 32)

  tested : Passes pred_test → Passes next_test → Passes next_pred_test → Passes pred_next_test → Passes newest_test → Passes shifted_test
      → ((t : ℕ) → length (N.memory t) ≡ 5) → ((s t : ℕ) → s < 32 → t < 32 → N.memory s ≡ N.memory t → s ≡ t) → Register N
  tested p q r x y z five one =
      record {
        pred_below = λ t b h. ltb→lt (N.pred t b) 32 (below_bit pred_test 32 p.0 p.1 b t h);
        next_below = λ s b h. ltb→lt (N.next s b) 32 (below_bit next_test 32 q.0 q.1 b s h);
        next_pred = λ t b h. eqb→eq (N.next (N.pred t b) (N.newest t)) t (below_bit next_pred_test 32 r.0 r.1 b t h);
        pred_next = λ s b h. eqb→eq (N.pred (N.next s b) (N.oldest s)) s (below_bit pred_next_test 32 x.0 x.1 b s h);
        newest_next = λ s b h. same_bit_eq (N.newest (N.next s b)) b (below_bit newest_test 32 y.0 y.1 b s h);
        shifted = λ t b h. same_bits_eq (N.memory t ++ (b ∷ [])) (N.newest t ∷ N.memory (N.pred t b)) (below_bit shifted_test 32 z.0 z.1 b t h);
        five = five;
        memory_one = one;
      }

-- a state from its inputs: each is worth twice the one before
abbrev worth : ℕ → List Bool → ℕ
worth p [] = 0
worth p (b ∷ w) = byte b * p + worth (p * 2) w

low_worth : (t : ℕ) → t < 32 → worth 1 (newest_low.memory t) ≡ t
low_worth t h = eqb→eq (worth 1 (newest_low.memory t)) t (below (λ t. eqb (worth 1 (newest_low.memory t)) t) 32 tt t h)

high_worth : (t : ℕ) → t < 32 → worth 1 (newest_high.memory t) ≡ mirror t
high_worth t h = eqb→eq (worth 1 (newest_high.memory t)) (mirror t) (below (λ t. eqb (worth 1 (newest_high.memory t)) (mirror t)) 32 tt t h)

pub mirror_one : (s t : ℕ) → s < 32 → t < 32 → mirror s ≡ mirror t → s ≡ t
mirror_one s t hs ht e = sym (mirror-mirror s hs) ∙ ap mirror e ∙ mirror-mirror t ht

pub register_low_lem : Register newest_low
register_low_lem = tested newest_low (tt, tt) (tt, tt) (tt, tt) (tt, tt) (tt, tt) (tt, tt) (λ t. refl) (λ s t hs ht e. sym (low_worth s hs) ∙ ap (worth 1) e ∙ low_worth t ht)

pub register_high_lem : Register newest_high
register_high_lem = tested newest_high (tt, tt) (tt, tt) (tt, tt) (tt, tt) (tt, tt) (tt, tt) (λ t. refl)
    (λ s t hs ht e. mirror_one s t hs ht (sym (high_worth s hs) ∙ ap (worth 1) e ∙ high_worth t ht))

-- the newest input of a state is its lowest or its highest byte
pub low_bit : (t : ℕ) → t < 32 → byte (newest_low.newest t) ≡ t % 2
low_bit t h = eqb→eq (byte (newest_low.newest t)) (t % 2) (below (λ t. eqb (byte (newest_low.newest t)) (t % 2)) 32 tt t h)

pub high_bit : (t : ℕ) → t < 32 → byte (newest_high.newest t) ≡ t / 16
high_bit t h = eqb→eq (byte (newest_high.newest t)) (t / 16) (below (λ t. eqb (byte (newest_high.newest t)) (t / 16)) 32 tt t h)

-- ---- the law between them: f takes the states of N to those of M
pub record Renumbers (N M : Numbering) (f : ℕ → ℕ) : Type 0 where
  pub next_same : (s : ℕ) (b : Bool) → s < 32 → f (N.next s b) ≡ M.next (f s) b
  pub one : (s t : ℕ) → s < 32 → t < 32 → f s ≡ f t → s ≡ t

pub same_numbers : (N : Numbering) → Renumbers N N (λ s. s)
same_numbers N = record { next_same = λ s b h. refl; one = λ s t hs ht e. e }

mirror-next : (s : ℕ) (b : Bool) → s < 32 → mirror (newest_low.next s b) ≡ newest_high.next (mirror s) b
mirror-next s b h =
    eqb→eq (mirror (newest_low.next s b)) (newest_high.next (mirror s) b) (below_bit (λ b s. eqb (mirror (newest_low.next s b)) (newest_high.next (mirror s) b)) 32 tt tt b s h)

pub mirrored : Renumbers newest_low newest_high mirror
mirrored = record { next_same = mirror-next; one = mirror_one }
