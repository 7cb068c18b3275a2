-- A frame comes back from the slots that carry it, in each of the three modes. Assumes nothing.
use mathlib.Core.Path.{◌≡◌, refl, sym, ap, ◌∙◌}
use mathlib.Core.List.{List, ◌++◌}
use Prim.Native.Nat.{ℕ, zero, suc, ◌-◌, ◌<◌}
use native.Mathlib.Omega.{arith}
use lib.ListN.{length, take, drop}
use lib.Seq.{take_at, drop_at, drop-drop, take_all}
use Rattle.std.specs.Prelude.{Ok, Err}
use Rattle.bits.specs.Arguments.{Arguments}
use Rattle.bits.specs.Calls.{WriteCall}
use Rattle.bits.proofs.Refusing.{never_both}
use Rattle.interleaving.proofs.RoundTrip.{collected-carried}
use Rattle.acelp_interleaver.specs.Wire.{place_at, wire_of, slots_of, age_of, third, interleaved, deinterleaved, InterleavingCall, DeinterleavingCall}
use Rattle.acelp_interleaver.specs.declared.Interleaving.{Interleaving}
use Rattle.acelp_interleaver.specs.declared.Interleaving.TheVariants.{One, Two, Three}
use Rattle.acelp_interleaver.specs.Laws.{order_laws}

age_below : (mode : Interleaving) (row : ℕ) → age_of mode row < slots_of mode
age_below One row = omega arith
age_below Two row = omega arith
age_below Three row = omega arith

-- The frame x is the newest in the first slot, the one before the newest in the second, the oldest in the third.
pub carried_back : {A : Type 0} (d : A) (mode : Interleaving) (slots x : List A) (history : ℕ → List A) → length x ≡ 260
    → ((k : ℕ) → k < slots_of mode → third slots k ≡ interleaved d (history k) mode)
    → ((k : ℕ) → k < slots_of mode → third (history k) (2 - k) ≡ x)
    → deinterleaved d slots mode ≡ x
unfolding interleaved deinterleaved
carried_back d mode slots x history size carry same =
    collected-carried d place_at wire_of order_laws.wire_below order_laws.place_of_wire
    (λ row. third slots (age_of mode row)) (λ row other. third (history (age_of mode row)) (2 - age_of mode other)) x size
    (λ row h. carry (age_of mode row) (age_below mode row)) (λ row h. same (age_of mode row) (age_below mode row))

-- ---- three in a row
abbrev pub three : {A : Type 0} → (ℕ → List A) → ℕ → List A
three f k = f k ++ (f (suc k) ++ f (suc (suc k)))

module _ {A : Type 0} (a b c : List A) (la : length a ≡ 260) (lb : length b ≡ 260) (lc : length c ≡ 260) where
  first : third (a ++ (b ++ c)) 0 ≡ a
  first = take_at a (b ++ c) 260 la

  second : third (a ++ (b ++ c)) 1 ≡ b
  second = ap (take 260) (drop_at a (b ++ c) 260 la) ∙ take_at b c 260 lb

  last : third (a ++ (b ++ c)) 2 ≡ c
  last =
      ap (take 260) (sym (drop-drop 260 260 (a ++ (b ++ c))) ∙ ap (drop 260) (drop_at a (b ++ c) 260 la) ∙ drop_at b c 260 lb)
      ∙ take_all 260 c (omega arith)

-- Frames one after the other, a slot for each three of them; the frame is then the newest of the first slot's.
-- The slots past those that a frame is spread over are of any content.
pub acelp_slots_round_trip : {A : Type 0} (d : A) (mode : Interleaving) (frame slot : ℕ → List A) → ((i : ℕ) → length (frame i) ≡ 260) → ((k : ℕ) → length (slot k) ≡ 260)
    → ((k : ℕ) → k < slots_of mode → slot k ≡ interleaved d (three frame k) mode) → deinterleaved d (three slot 0) mode ≡ frame 2
acelp_slots_round_trip {A} d mode frame slot lf ls carry =
    carried_back d mode (three slot 0) (frame 2) (three frame) (lf 2) (λ k h. thirds k (below mode k h) ∙ carry k h) (λ k h. same k (below mode k h))
  where
    below : (m : Interleaving) (k : ℕ) → k < slots_of m → k < 3
    below One k h = omega arith
    below Two k h = omega arith
    below Three k h = omega arith

    thirds : (k : ℕ) → k < 3 → third (three slot 0) k ≡ slot k
    thirds zero h = first (slot 0) (slot 1) (slot 2) (ls 0) (ls 1) (ls 2)
    thirds (suc zero) h = second (slot 0) (slot 1) (slot 2) (ls 0) (ls 1) (ls 2)
    thirds (suc (suc zero)) h = last (slot 0) (slot 1) (slot 2) (ls 0) (ls 1) (ls 2)
    thirds (suc (suc (suc k))) h = absurd (omega arith)

    same : (k : ℕ) → k < 3 → third (three frame k) (2 - k) ≡ frame 2
    same zero h = last (frame 0) (frame 1) (frame 2) (lf 0) (lf 1) (lf 2)
    same (suc zero) h = second (frame 1) (frame 2) (frame 3) (lf 1) (lf 2) (lf 3)
    same (suc (suc zero)) h = first (frame 2) (frame 3) (frame 4) (lf 2) (lf 3) (lf 4)
    same (suc (suc (suc k))) h = absurd (omega arith)

-- ---- the calls
done_written : (arguments : Arguments) {result buffer₀ buffer : List ℕ} {r : Arguments} → WriteCall arguments result buffer₀ buffer r → r ≡ Ok tt → buffer ≡ result
done_written (Ok tt) w e = (w.done refl).1
done_written (Err why) w e = never_both e (w.declined why refl).0

-- where each call is done
pub acelp_slot_calls_round_trip : (mode : Interleaving) (frame slot before : ℕ → List ℕ) (r : ℕ → Arguments) (frame₀ frame' : List ℕ) (s : Arguments)
    → ((i : ℕ) → length (frame i) ≡ 260) → ((k : ℕ) → length (slot k) ≡ 260)
    → ((k : ℕ) → k < slots_of mode → InterleavingCall (three frame k) mode (before k) (slot k) (r k) × (r k ≡ Ok tt))
    → DeinterleavingCall (three slot 0) mode frame₀ frame' s → s ≡ Ok tt → frame' ≡ frame 2
acelp_slot_calls_round_trip mode frame slot before r frame₀ frame' s lf ls calls back e =
    done_written _ back e ∙ acelp_slots_round_trip 0 mode frame slot lf ls (λ k h. done_written _ (calls k h).0 (calls k h).1)
