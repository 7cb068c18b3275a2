-- Four bits at once into a register of the 16-bit checksum: four steps on sixteen bits add the four of the quotient at three places, which is
-- the product of their number with the polynomial, to the register moved up by four. Assumes nothing.
use mathlib.Core.Path.{◌≡◌, refl, sym, ap, ap₂, subst, ◌∙◌}
use mathlib.Core.Bool.{Bool, true, false, cond}
use mathlib.Core.List.{List, [], ◌∷◌, ◌++◌}
use Prim.Native.Nat.{ℕ, zero, suc, ◌+◌, ◌*◌, ◌/◌, ◌%◌, ◌^◌, ◌<◌, ◌≤◌}
use native.Mathlib.Omega.{arith}
use lib.Bits.{bit_xor, xor_comm, xor_lt}
use Rattle.std.specs.Simd.{first_chunks}
use Rattle.std.proofs.lemmas.List.{take-append-drop, drop-drop}
use lib.ListN.{length, get_or, take, drop, length-drop, length-map}
use lib.Pow.{shr_lt, shr-shr}
use lib.Seq.{length-take-le}
use Rattle.bits.specs.Bits.{bit, bits, ◌⊕◌}
use Rattle.bits.specs.Numbers.{packed, unpacked}
use Rattle.bits.proofs.Chunks.{chunk_at}
use Rattle.bits.proofs.Binary.{bits-append}
use Rattle.bits.proofs.Packed.{packed_snoc, packed-unpacked, packed-unpacked_below, packed_below, unpacked-length, unpacked-packed}
use Rattle.checksums.specs.Checksums.{added, ccitt}
use Rattle.checksums.specs.Feedback.{stepped, machine, register_after}
use Rattle.checksums.proofs.Shifting.{bits_again, packed-added, after-machine, after_below, after-append}

-- the highest m of m + k bits are those of the quotient
unpacked_split : (m k x : ℕ) → unpacked (m + k) x ≡ unpacked m (x / 2 ^ k) ++ unpacked k x
unfolding unpacked
unpacked_split zero k x = let e : 0 + k ≡ k = omega arith in ap (λ (n : ℕ). unpacked n x) e
unpacked_split (suc m) k x =
    let e : suc m + k ≡ suc (m + k) = omega arith in
    let d : m + k ≡ k + m = omega arith in
    ap (λ (n : ℕ). unpacked n x) e
    ∙ ap₂ (λ (b : Bool) (w : List Bool). b ∷ w) (ap bit (ap (λ (n : ℕ). x / 2 ^ n) d ∙ sym (shr-shr x k m))) (unpacked_split m k x)

-- ---- four steps
-- the quotient's bits times the polynomial
abbrev product : Bool → Bool → Bool → Bool → List Bool
product a b c d = a ∷ b ∷ c ∷ d ∷ false ∷ false ∷ false ∷ a ∷ b ∷ c ∷ d ∷ false ∷ a ∷ b ∷ c ∷ d ∷ []

-- one step: the feedback goes in at the polynomial's three places
step : (h b x₁ x₂ x₃ x₄ x₅ x₆ x₇ x₈ x₉ x₁₀ x₁₁ x₁₂ x₁₃ x₁₄ x₁₅ : Bool)
    → stepped ccitt (h ∷ x₁ ∷ x₂ ∷ x₃ ∷ x₄ ∷ x₅ ∷ x₆ ∷ x₇ ∷ x₈ ∷ x₉ ∷ x₁₀ ∷ x₁₁ ∷ x₁₂ ∷ x₁₃ ∷ x₁₄ ∷ x₁₅ ∷ []) b
    ≡ x₁ ∷ x₂ ∷ x₃ ∷ (h ⊕ b ⊕ x₄) ∷ x₅ ∷ x₆ ∷ x₇ ∷ x₈ ∷ x₉ ∷ x₁₀ ∷ (h ⊕ b ⊕ x₁₁) ∷ x₁₂ ∷ x₁₃ ∷ x₁₄ ∷ x₁₅ ∷ (h ⊕ b ⊕ false) ∷ []
unfolding stepped added
step h b x₁ x₂ x₃ x₄ x₅ x₆ x₇ x₈ x₉ x₁₀ x₁₁ x₁₂ x₁₃ x₁₄ x₁₅ = go (h ⊕ b)
  where
    t : List Bool
    t = x₁ ∷ x₂ ∷ x₃ ∷ x₄ ∷ x₅ ∷ x₆ ∷ x₇ ∷ x₈ ∷ x₉ ∷ x₁₀ ∷ x₁₁ ∷ x₁₂ ∷ x₁₃ ∷ x₁₄ ∷ x₁₅ ∷ false ∷ []

    go : (f : Bool) → cond f (added ccitt t) t
        ≡ x₁ ∷ x₂ ∷ x₃ ∷ (f ⊕ x₄) ∷ x₅ ∷ x₆ ∷ x₇ ∷ x₈ ∷ x₉ ∷ x₁₀ ∷ (f ⊕ x₁₁) ∷ x₁₂ ∷ x₁₃ ∷ x₁₄ ∷ x₁₅ ∷ (f ⊕ false) ∷ []
    go false = refl
    go true = refl

-- the highest four bits meet no feedback before they fall out
four_steps : (h₁ h₂ h₃ h₄ x₁ x₂ x₃ x₄ x₅ x₆ x₇ x₈ x₉ x₁₀ x₁₁ x₁₂ b₁ b₂ b₃ b₄ : Bool)
    → machine ccitt (h₁ ∷ h₂ ∷ h₃ ∷ h₄ ∷ x₁ ∷ x₂ ∷ x₃ ∷ x₄ ∷ x₅ ∷ x₆ ∷ x₇ ∷ x₈ ∷ x₉ ∷ x₁₀ ∷ x₁₁ ∷ x₁₂ ∷ []) (b₁ ∷ b₂ ∷ b₃ ∷ b₄ ∷ [])
    ≡ added (product (h₁ ⊕ b₁) (h₂ ⊕ b₂) (h₃ ⊕ b₃) (h₄ ⊕ b₄))
    (x₁ ∷ x₂ ∷ x₃ ∷ x₄ ∷ x₅ ∷ x₆ ∷ x₇ ∷ x₈ ∷ x₉ ∷ x₁₀ ∷ x₁₁ ∷ x₁₂ ∷ false ∷ false ∷ false ∷ false ∷ [])
unfolding machine added
four_steps h₁ h₂ h₃ h₄ x₁ x₂ x₃ x₄ x₅ x₆ x₇ x₈ x₉ x₁₀ x₁₁ x₁₂ b₁ b₂ b₃ b₄ =
    ap (λ (r : List Bool). machine ccitt r (b₂ ∷ b₃ ∷ b₄ ∷ [])) (step h₁ b₁ _ _ _ _ _ _ _ _ _ _ _ _ _ _ _)
    ∙ ap (λ (r : List Bool). machine ccitt r (b₃ ∷ b₄ ∷ [])) (step h₂ b₂ _ _ _ _ _ _ _ _ _ _ _ _ _ _ _)
    ∙ ap (λ (r : List Bool). machine ccitt r (b₄ ∷ [])) (step h₃ b₃ _ _ _ _ _ _ _ _ _ _ _ _ _ _ _)
    ∙ step h₄ b₄ _ _ _ _ _ _ _ _ _ _ _ _ _ _ _

-- ---- as numbers
-- each bit of the product is one of the quotient's alone
product_number : (a b c d : Bool) → packed (product a b c d) ≡ packed (a ∷ b ∷ c ∷ d ∷ []) * 4129
unfolding packed
product_number a b c d = omega arith

-- the lower twelve bits, moved up by four
moved_up : (x : ℕ) → packed (unpacked 12 x ++ (false ∷ false ∷ false ∷ false ∷ [])) ≡ x % 4096 * 16
unfolding unpacked
moved_up x =
    let w : List Bool = unpacked 12 x in
    let e₁ : packed (w ++ (false ∷ [])) ≡ packed w * 2 + 0 = packed_snoc w false in
    let e₂ : packed (w ++ (false ∷ false ∷ [])) ≡ packed (w ++ (false ∷ [])) * 2 + 0 = packed_snoc (w ++ (false ∷ [])) false in
    let e₃ : packed (w ++ (false ∷ false ∷ false ∷ [])) ≡ packed (w ++ (false ∷ false ∷ [])) * 2 + 0 = packed_snoc (w ++ (false ∷ false ∷ [])) false in
    let e₄ : packed (w ++ (false ∷ false ∷ false ∷ false ∷ [])) ≡ packed (w ++ (false ∷ false ∷ false ∷ [])) * 2 + 0 = packed_snoc (w ++ (false ∷ false ∷ false ∷ [])) false in
    let e : packed w ≡ x % 4096 = packed-unpacked 12 x in
    omega arith

module _ (x four : ℕ) (hx : x < 65536) (hf : four < 16) where
  -- the next four bits of the quotient, as a number
  quotient_number : packed (added (unpacked 4 (x / 4096)) (unpacked 4 four)) ≡ bit_xor (x / 4096) four
  quotient_number =
      packed-added (unpacked 4 (x / 4096)) (unpacked 4 four) (unpacked-length 4 (x / 4096) ∙ sym (unpacked-length 4 four))
      ∙ ap₂ bit_xor (packed-unpacked_below 4 (x / 4096) (shr_lt 4 12 hx)) (packed-unpacked_below 4 four hf)

  pub product_below : bit_xor (x / 4096) four * 4129 < 65536
  product_below = let h : bit_xor (x / 4096) four < 2 ^ 4 = xor_lt 4 (x / 4096) four (shr_lt 4 12 hx) hf in omega arith

  pub four_in : bit_xor (x % 4096 * 16) (bit_xor (x / 4096) four * 4129) ≡ register_after 16 4129 x (unpacked 4 four)
  unfolding unpacked added
  four_in =
      let p : List Bool = product (bit (x / 4096 / 8) ⊕ bit (four / 8)) (bit (x / 4096 / 4) ⊕ bit (four / 4)) (bit (x / 4096 / 2) ⊕ bit (four / 2)) (bit (x / 4096 / 1) ⊕ bit (four / 1)) in
      let l : List Bool = unpacked 12 x ++ (false ∷ false ∷ false ∷ false ∷ []) in
      xor_comm (x % 4096 * 16) (bit_xor (x / 4096) four * 4129)
      ∙ ap₂ (λ (q r : ℕ). bit_xor (q * 4129) r) (sym quotient_number) (sym (moved_up x))
      ∙ ap (λ (q : ℕ). bit_xor q (packed l)) (sym (product_number _ _ _ _))
      ∙ sym (packed-added p l refl)
      ∙ ap packed (sym (four_steps _ _ _ _ _ _ _ _ _ _ _ _ _ _ _ _ _ _ _ _))
      ∙ ap (λ (r : List Bool). packed (machine ccitt r (unpacked 4 four))) (sym (unpacked_split 4 12 x))
      ∙ sym (after-machine 16 4129 x (unpacked 4 four))

-- ---- bytes
-- the eight bits of a byte are those of its halves
pub two_fours : (x : ℕ) → unpacked 4 (x / 16) ++ unpacked 4 (x % 16) ≡ unpacked 8 x
two_fours x =
    ap (λ (w : List Bool). unpacked 4 (x / 16) ++ w)
    (ap (unpacked 4) (sym (packed-unpacked 4 x)) ∙ ap (λ (n : ℕ). unpacked n (packed (unpacked 4 x))) (sym (unpacked-length 4 x)) ∙ unpacked-packed (unpacked 4 x))
    ∙ sym (unpacked_split 4 4 x)

-- the fours of a list
pub four_at : (s : List ℕ) {fours : List (List ℕ)} {i : ℕ} → fours ≡ first_chunks 4 (length s / 4) s → length fours ≡ length s / 4 → i < length fours
    → (get_or fours i [] ≡ take 4 (drop (i * 4) s)) × (i * 4 + 4 ≤ length s)
four_at s {fours} {i} e size h =
    (ap (λ (l : List (List ℕ)). get_or l i []) e ∙ chunk_at 4 (length s / 4) s i (omega arith), omega arith)

-- ---- the loop of `checksum_from_bits`: the bits from k on, into the register as it is now, end where all of them end
pub record ByFours (s : List ℕ) (x₀ x k : ℕ) : Type 0 where
  pub low : k ≤ length s
  pub fits : x < 65536
  pub rest : register_after 16 4129 x (bits (drop k s)) ≡ register_after 16 4129 x₀ (bits s)

pub by_fours_none : (s : List ℕ) (x : ℕ) → x < 65536 → ByFours s x x 0
by_fours_none s x h = record { low = omega arith; fits = h; rest = refl }

-- four bits
pub four_length : (s : List ℕ) (k : ℕ) → k + 4 ≤ length s → length (take 4 (drop k s)) ≡ 4
four_length s k h = length-take-le 4 (drop k s) (omega (arith, length-drop k s))

pub four_below : (s : List ℕ) (k : ℕ) → k + 4 ≤ length s → packed (bits (take 4 (drop k s))) < 16
four_below s k h =
    subst (λ (n : ℕ). packed (bits (take 4 (drop k s))) < 2 ^ n) (length-map (take 4 (drop k s)) bit ∙ four_length s k h) (packed_below (bits (take 4 (drop k s))))

module _ {s : List ℕ} {x₀ x k : ℕ} (i : ByFours s x₀ x k) where
  pub by_fours_more : {four y : ℕ} → k + 4 ≤ length s → four ≡ packed (bits (take 4 (drop k s)))
      → y ≡ register_after 16 4129 x (unpacked 4 four) → ByFours s x₀ y (k + 4)
  by_fours_more {four} {y} h e f =
      let u : List ℕ = take 4 (drop k s) in
      let again : unpacked 4 four ≡ bits u = ap (unpacked 4) e ∙ bits_again 4 (bits u) (length-map u bit ∙ four_length s k h) in
      record {
        low = h;
        fits = subst (λ (r : ℕ). r < 65536) (sym f) (after_below 16 4129 x (unpacked 4 four));
        rest =
            ap (λ (r : ℕ). register_after 16 4129 r (bits (drop (k + 4) s))) f
            ∙ after-append 16 4129 x (unpacked 4 four) (bits (drop (k + 4) s))
            ∙ ap (λ (w : List Bool). register_after 16 4129 x (w ++ bits (drop (k + 4) s))) again
            ∙ ap (register_after 16 4129 x)
            (ap (λ (l : List ℕ). bits u ++ bits l) (sym (drop-drop 4 k s)) ∙ sym (bits-append u (drop 4 (drop k s))) ∙ ap bits (take-append-drop 4 (drop k s)))
            ∙ i.rest;
      }

  pub by_fours_done : {r : ℕ} → r ≡ register_after 16 4129 x (bits (drop k s)) → r ≡ register_after 16 4129 x₀ (bits s)
  by_fours_done e = e ∙ i.rest
