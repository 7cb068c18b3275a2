-- `decode_erased` of either half of a word, as one slot carries it, is the message, corrected 0, observed 130. Assumes nothing.
use mathlib.Core.Path.{◌≡◌, refl, sym, ap, subst, ◌∙◌}
use mathlib.Core.Bool.{Bool, true, false, cond}
use mathlib.Core.List.{List}
use Prim.Native.Nat.{ℕ, ◌^◌, ◌<◌}
use native.Mathlib.Omega.{arith}
use lib.Dec.{T}
use lib.ListN.{length, get_or, get_or-map}
use Rattle.bits.specs.Bits.{byte, bytes, all_binary}
use Rattle.std.specs.Prelude.{Ok}
use Rattle.bits.proofs.Tally.{tally_zero, zero_at}
use Rattle.bits.proofs.Binary.{byte_below, differ_same, differ_none}
use Rattle.bits.specs.Observed.{erased_differ, observed_count}
use Rattle.bits.proofs.Below.{below_all}
use Rattle.bits.proofs.Erased.{erased_none}
use Rattle.facch_interleaver.specs.declared.WordHalf.{WordHalf}
use Rattle.facch_interleaver.specs.declared.WordHalf.TheVariants.{Start, End}
use Rattle.bits.specs.Arguments.{Arguments}
use Rattle.interleaving.specs.Calls.{two_arguments}
use Rattle.facch_interleaver.specs.Wire.{interleaved, observed, Interleaving, Observing}
use Rattle.facch.specs.Words.{word_of, tail_biting, Encoding}
use Rattle.facch.specs.Decoding.{content_of, decoding, erased_arguments}
use Rattle.facch.specs.Search.{weight}
use Rattle.bits.proofs.Refusing.{erasable_passed, room_passed}
use Rattle.facch_laws.proofs.Halves.{slotted, carries, slot_of, observed-length, word-observed, half_count}
use Rattle.facch_laws.proofs.Determined.{half_determines}
use Rattle.facch_laws.proofs.RoundTrip.{agreed, erased_byte, biting_length, word-length, valid_own, content_own, written}

-- ---- a byte of a half: the coded bit b where it is carried, else 2
low : (c b : Bool) → cond c (byte b) 2 < 3
low true b = omega (arith, byte_below b)
low false b = omega arith

own_bit : (c b : Bool) → erased_differ b (cond c (byte b) 2) ≡ 0
own_bit true b = erased_byte b b ∙ differ_same b
own_bit false b = sym (erased_none b 2 refl)

same_bit_lem : (c a b : Bool) → T c → erased_differ a (cond c (byte b) 2) ≡ 0 → a ≡ b
same_bit_lem true a b t e = differ_none a b (sym (erased_byte a b) ∙ e)
same_bit_lem false a b t e = absurd t

-- ---- a half of a word
module _ (half : WordHalf) (w : List Bool) (size : length w ≡ 65) (other : List ℕ) where
  abbrev received : List ℕ
  received = observed half (slot_of half other (bytes (tail_biting w)))

  received_size : length received ≡ 260
  received_size = observed-length half (slot_of half other (bytes (tail_biting w)))

  received_at : (place : ℕ) → place < 260 → get_or received place 0 ≡ cond (carries half place) (byte (get_or (tail_biting w) place false)) 2
  received_at place h =
      word-observed (bytes (tail_biting w)) place h half other
      ∙ ap (λ (x : ℕ). cond (carries half place) x 2) (get_or-map byte (tail_biting w) place false)

  passed : erased_arguments received ≡ Ok tt
  passed =
      erasable_passed 260 received received_size
      (below_all 3 received
      (λ k h.
      let b : k < 260 = omega (arith, received_size) in
      subst (λ (x : ℕ). x < 3) (sym (received_at k b)) (low (carries half k) (get_or (tail_biting w) k false))))

  many : observed_count received ≡ 130
  many = half_count half received (λ place. byte (get_or (tail_biting w) place false)) received_size (λ place h. byte_below (get_or (tail_biting w) place false)) received_at

  agrees : weight received w ≡ 0
  unfolding weight
  agrees =
      tally_zero erased_differ false 0 (tail_biting w) received
      (λ k h. ap (erased_differ (get_or (tail_biting w) k false)) (received_at k (omega (arith, received_size))) ∙ own_bit (carries half k) (get_or (tail_biting w) k false))

  only : (u : List Bool) → length u ≡ 65 → weight received u ≡ 0 → u ≡ w
  unfolding weight
  only u hu z =
      half_determines half u w hu size
      (λ place h c.
      same_bit_lem (carries half place) (get_or (tail_biting u) place false) (get_or (tail_biting w) place false) c
      (ap (erased_differ (get_or (tail_biting u) place false)) (sym (received_at place h))
      ∙ zero_at erased_differ false 0 (tail_biting u) received z place (omega (arith, biting_length u hu)) (omega (arith, received_size))))

-- ---- the word of a message
-- what is read of 260 bytes 0, 1 and 2: the message comes back
abbrev pub Read : Bool → ℕ → ℕ → List ℕ → Type 0
Read continuation message dvcc received =
    decoding (erased_arguments received) received dvcc ≡ Ok (record { continuation = continuation; message = message; corrected = 0; observed = 130 })

module _ (continuation : Bool) (message dvcc : ℕ) (h : message < 2 ^ 48) where
  abbrev pub sent : List ℕ
  sent = bytes (tail_biting (word_of continuation message dvcc))

  half_trip : (half : WordHalf) (other : List ℕ) → Read continuation message dvcc (observed half (slot_of half other sent))
  half_trip half other =
      let w : List Bool = word_of continuation message dvcc in
      let size : length w ≡ 65 = word-length continuation message dvcc in
      let n : observed_count (observed half (slot_of half other sent)) ≡ 130 = many half w size other in
      agreed (observed half (slot_of half other sent)) w size (agrees half w size other) (only half w size other) _ dvcc (passed half w size other) (omega (arith, n))
      (valid_own continuation message dvcc)
      ∙ ap Ok (ap (λ (k : ℕ). content_of w 0 k) n ∙ content_own continuation message dvcc 130 h)

  -- from the first of its slots, whatever word that finishes
  pub start_trip : (other : List ℕ) → Read continuation message dvcc (observed Start (interleaved 0 other sent))
  start_trip other = half_trip Start other

  -- from the second, whatever word starts in it
  pub end_trip : (other : List ℕ) → Read continuation message dvcc (observed End (interleaved 0 sent other))
  end_trip other = half_trip End other

  -- ---- the same of the calls
  observed_trip : (half : WordHalf) (other : List ℕ) (r : Arguments) {slot received₀ received : List ℕ} → length received₀ ≡ 260
      → (slot ≡ slot_of half other sent) × (length slot ≡ 260) × (all_binary slot ≡ true) → Observing slot half received₀ received r
      → Read continuation message dvcc received
  observed_trip half other r {slot} {received₀} room s o =
      subst (Read continuation message dvcc) (sym ((o.done (room_passed 260 slot 260 (length received₀) s.1 room s.2)).1 ∙ ap (observed half) s.0)) (half_trip half other)

  module _ {coded₀ coded : List ℕ} (r : Arguments) (room : length coded₀ ≡ 260) (e : Encoding continuation message dvcc coded₀ coded r)
      (other : List ℕ) (r' r'' : Arguments) {slot₀ slot received₀ received : List ℕ} (room' : length received₀ ≡ 260) where
    pub calls_start_trip : two_arguments other coded (length slot₀) ≡ Ok tt → Interleaving other coded slot₀ slot r' → Observing slot Start received₀ received r''
        → Read continuation message dvcc received
    calls_start_trip f i o =
        let s = slotted other coded r' f i in
        observed_trip Start other r'' room' (s.0 ∙ ap (interleaved 0 other) (written continuation message dvcc h r room e), s.1, s.2) o

    pub calls_end_trip : two_arguments coded other (length slot₀) ≡ Ok tt → Interleaving coded other slot₀ slot r' → Observing slot End received₀ received r''
        → Read continuation message dvcc received
    calls_end_trip f i o =
        let s = slotted coded other r' f i in
        observed_trip End other r'' room' (s.0 ∙ ap (λ (l : List ℕ). interleaved 0 l other) (written continuation message dvcc h r room e), s.1, s.2) o
