-- What a generator sends over a line of inputs, each step from the state that the line itself shows. Assumes nothing.
use mathlib.Core.Path.{◌≡◌, refl, sym, ap, ap₂, ◌∙◌}
use mathlib.Core.Bool.{Bool, true}
use mathlib.Core.List.{List, [], ◌∷◌, reverse}
use Prim.Native.Nat.{ℕ, suc, ◌+◌, ◌*◌, ◌/◌, ◌<◌, ◌≤◌}
use native.Mathlib.Omega.{arith}
use lib.ListN.{length, get_or, set, take, drop, length-map}
use Rattle.bits.specs.Bits.{byte, bit, bits, bytes, all_binary}
use Rattle.bits.specs.Places.{listed}
use Rattle.bits.proofs.Binary.{bytes_bits, bit_byte, bit_above, byte_below}
use Rattle.bits.proofs.Listed.{listed_same}
use Rattle.bits.proofs.Filled.{Filling, filling_more}
use Rattle.bits.proofs.Scattered.{filled_listed}
use Rattle.coding.specs.Codes.{tapped, outputs, coded, acelp}
use Rattle.coding.specs.Registers.{memory_low, Stepped}

-- ---- a generator g that sends f: at the first place it taps the first six inputs, at any other what it taps one input later
record Sends (g : List Bool) (f : List ℕ → ℕ → ℕ) : Type 0 where
  here : (a b c d e x : Bool) (u w : List Bool) → f (bytes (a ∷ b ∷ c ∷ d ∷ e ∷ x ∷ u)) 0 ≡ byte (tapped g (x ∷ e ∷ d ∷ c ∷ b ∷ a ∷ w))
  next : (a : ℕ) (l : List ℕ) (i : ℕ) → f (a ∷ l) (suc i) ≡ f l i

module _ {g : List Bool} {f : List ℕ → ℕ → ℕ} (s : Sends g f) where
  after_five : (a b c d e : Bool) (u w : List Bool)
      → listed (length u) (f (bytes (a ∷ b ∷ c ∷ d ∷ e ∷ u))) ≡ bytes (coded (g ∷ []) (e ∷ d ∷ c ∷ b ∷ a ∷ w) u)
  unfolding listed coded
  after_five a b c d e [] w = refl
  after_five a b c d e (x ∷ u) w =
      ap₂ (λ (y : ℕ) (l : List ℕ). y ∷ l) (s.here a b c d e x u w)
      (listed_same (length u) _ _ (s.next (byte a) (bytes (b ∷ c ∷ d ∷ e ∷ x ∷ u))) ∙ after_five b c d e x u (a ∷ w))

  line_bits : (n : ℕ) (w : List Bool) → length w ≡ n + 5 → listed n (f (bytes w)) ≡ bytes (coded (g ∷ []) (reverse (take 5 w)) (drop 5 w))
  line_bits n (a ∷ b ∷ c ∷ d ∷ e ∷ u) h =
      let m : n ≡ length u = omega arith in
      ap (λ (k : ℕ). listed k (f (bytes (a ∷ b ∷ c ∷ d ∷ e ∷ u)))) m ∙ after_five a b c d e u []
  line_bits n [] h = absurd (omega arith)
  line_bits n (a ∷ []) h = absurd (omega arith)
  line_bits n (a ∷ b ∷ []) h = absurd (omega arith)
  line_bits n (a ∷ b ∷ c ∷ []) h = absurd (omega arith)
  line_bits n (a ∷ b ∷ c ∷ d ∷ []) h = absurd (omega arith)

  line_sent : (n : ℕ) (l : List ℕ) → length l ≡ n + 5 → all_binary l ≡ true → listed n (f l) ≡ bytes (coded (g ∷ []) (reverse (take 5 (bits l))) (drop 5 (bits l)))
  line_sent n l h b =
      ap (λ (m : List ℕ). listed n (f m)) (sym (bytes_bits l b)) ∙ line_bits n (bits l) (length-map l bit ∙ h)

-- ---- by the register's state
-- the state that five inputs of a line from i on leave
abbrev pub state_at : List ℕ → ℕ → ℕ
state_at line i = get_or line (i + 4) 0 + get_or line (i + 3) 0 * 2 + get_or line (i + 2) 0 * 4 + get_or line (i + 1) 0 * 8 + get_or line i 0 * 16

later : (k : ℕ) (a : ℕ) (l : List ℕ) (i : ℕ) → get_or (a ∷ l) (suc i + k) 0 ≡ get_or l (i + k) 0
later k a l i = let e : suc i + k ≡ suc (i + k) = omega arith in ap (λ (n : ℕ). get_or (a ∷ l) n 0) e

state_later : (a : ℕ) (l : List ℕ) (i : ℕ) → state_at (a ∷ l) (suc i) ≡ state_at l i
state_later a l i = rw (later 4 a l i, later 3 a l i, later 2 a l i, later 1 a l i)

-- the five inputs that the state of a line holds
module _ (a b c d e : Bool) where
  abbrev state : ℕ
  state = byte e + byte d * 2 + byte c * 4 + byte b * 8 + byte a * 16

  state_holds : memory_low state ≡ e ∷ d ∷ c ∷ b ∷ a ∷ []
  state_holds =
      let e₀ : state ≡ (byte d + byte c * 2 + byte b * 4 + byte a * 8) * 2 + byte e = omega arith in
      let e₁ : state / 2 ≡ (byte c + byte b * 2 + byte a * 4) * 2 + byte d = omega (arith, byte_below a, byte_below b, byte_below c, byte_below d, byte_below e) in
      let e₂ : state / 4 ≡ (byte b + byte a * 2) * 2 + byte c = omega (arith, byte_below a, byte_below b, byte_below c, byte_below d, byte_below e) in
      let e₃ : state / 8 ≡ byte a * 2 + byte b = omega (arith, byte_below a, byte_below b, byte_below c, byte_below d, byte_below e) in
      let e₄ : state / 16 ≡ 0 * 2 + byte a = omega (arith, byte_below a, byte_below b, byte_below c, byte_below d, byte_below e) in
      ap₂ (λ (x : Bool) (l : List Bool). x ∷ l) (ap bit e₀ ∙ bit_above _ e)
      (ap₂ (λ (x : Bool) (l : List Bool). x ∷ l) (ap bit e₁ ∙ bit_above _ d)
      (ap₂ (λ (x : Bool) (l : List Bool). x ∷ l) (ap bit e₂ ∙ bit_above _ c)
      (ap₂ (λ (x : Bool) (l : List Bool). x ∷ l) (ap bit e₃ ∙ bit_above _ b) (ap (λ (x : Bool). x ∷ []) (ap bit e₄ ∙ bit_above 0 a)))))

-- what a generator sends at an input of a line
abbrev pub sent_at : List Bool → List ℕ → ℕ → ℕ
sent_at g l i = byte (tapped g (bit (get_or l (i + 5) 0) ∷ memory_low (state_at l i)))

sends : (g : List Bool) → ((w : List Bool) (a b c d e x : Bool) → tapped g (x ∷ e ∷ d ∷ c ∷ b ∷ a ∷ []) ≡ tapped g (x ∷ e ∷ d ∷ c ∷ b ∷ a ∷ w)) → Sends g (sent_at g)
sends g six =
    record {
      here = λ a b c d e x u w. ap byte (ap₂ (λ (y : Bool) (m : List Bool). tapped g (y ∷ m)) (bit_byte x) (state_holds a b c d e) ∙ six w a b c d e x);
      next = λ a l i. ap₂ (λ (x s : ℕ). byte (tapped g (bit x ∷ memory_low s))) (later 5 a l i) (state_later a l i);
    }

-- ---- the loop: the places below k are sent
pub record Sending (line : List ℕ) (n : ℕ) (first second : List ℕ) (k : ℕ) : Type 0 where
  pub one : Filling (λ i x. x ≡ sent_at (get_or acelp 0 []) line i) 0 n first k
  pub two : Filling (λ i x. x ≡ sent_at (get_or acelp 1 []) line i) 0 n second k

module _ {line : List ℕ} {n : ℕ} {first second : List ℕ} where
  pub sending_more : {k state next : ℕ} {output : List ℕ} → Sending line n first second k → k < n → state ≡ state_at line k
      → Stepped acelp memory_low state (bit (get_or line (k + 5) 0)) next output
      → Sending line n (set first k (get_or output 0 0)) (set second k (get_or output 1 0)) (k + 1)
  sending_more {k} s h e step =
      let sent = step.sent ∙ ap (λ (m : ℕ). bytes (outputs acelp (bit (get_or line (k + 5) 0) ∷ memory_low m))) e in
      record {
        one = filling_more s.one _ h (ap (λ (l : List ℕ). get_or l 0 0) sent);
        two = filling_more s.two _ h (ap (λ (l : List ℕ). get_or l 1 0) sent);
      }

  pub sending_done : {k : ℕ} → Sending line n first second k → length line ≡ n + 5 → all_binary line ≡ true → n ≤ k
      → (first ≡ bytes (coded (take 1 acelp) (reverse (take 5 (bits line))) (drop 5 (bits line))))
      × (second ≡ bytes (coded (drop 1 acelp) (reverse (take 5 (bits line))) (drop 5 (bits line))))
  unfolding tapped
  sending_done s size b h = (
    filled_listed s.one h ∙ line_sent (sends (get_or acelp 0 []) (λ w a b c d e x. refl)) n line size b,
    filled_listed s.two h ∙ line_sent (sends (get_or acelp 1 []) (λ w a b c d e x. refl)) n line size b,
  )
