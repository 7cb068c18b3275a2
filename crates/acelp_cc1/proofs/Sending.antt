-- `send`: the outputs of the two generators by turns are the coded bits, and four runs of them are sent. Assumes nothing.
use mathlib.Core.Path.{◌≡◌, refl, sym, ap, ap₂, subst, ◌∙◌}
use mathlib.Core.Bool.{Bool, true}
use mathlib.Core.List.{List, [], ◌∷◌, ◌++◌, append_assoc, append-nil, reverse}
use Prim.Native.Nat.{ℕ, zero, suc, ◌+◌, ◌*◌, ◌<◌, ◌≤◌}
use native.Mathlib.Omega.{arith}
use native.Mathlib.Numerals.{add-one}
use lib.ListN.{length, get_or, set, take, drop, length-append, length-drop, take-append-drop}
use lib.Seq.{drop-drop, length-take-le}
use borrow.Rule.Slice.PartMut.{put_mid, post_of}
use Rattle.std.proofs.lemmas.Slice.{take-put_mid, drop-put_mid}
use Rattle.bits.specs.Bits.{bits, bytes, byte, all_below, all_binary}
use Rattle.bits.proofs.Binary.{bytes-append}
use Rattle.bits.proofs.Filled.{Filling, filling_more}
use Rattle.bits.proofs.Listed.{is_listed}
use Rattle.bits.proofs.Scattered.{filled_listed}
use Rattle.coding.specs.Codes.{tapped, coded, acelp}
use Rattle.coding.specs.Registers.{memory_low}
use Rattle.puncturing.specs.Punctured.{sent_of}
use Rattle.acelp_cc1.specs.Turns.{by_turns}
use Rattle.acelp_cc1.proofs.Ordering.{bytes_drop}

-- ---- lists by turns
twice : (i : ℕ) → suc i * 2 ≡ suc (suc (i * 2))
twice i = omega arith

turns_first : (i : ℕ) (k l : List ℕ) → i < length k → i < length l → get_or (by_turns k l) (i * 2) 0 ≡ get_or k i 0
unfolding by_turns
turns_first i [] l hk hl = absurd (omega arith)
turns_first i (x ∷ k) [] hk hl = absurd (omega arith)
turns_first zero (x ∷ k) (y ∷ l) hk hl = refl
turns_first (suc i) (x ∷ k) (y ∷ l) hk hl =
    ap (λ (n : ℕ). get_or (x ∷ y ∷ by_turns k l) n 0) (twice i) ∙ turns_first i k l (omega arith) (omega arith)

turns_second : (i : ℕ) (k l : List ℕ) → i < length k → i < length l → get_or (by_turns k l) (suc (i * 2)) 0 ≡ get_or l i 0
unfolding by_turns
turns_second i [] l hk hl = absurd (omega arith)
turns_second i (x ∷ k) [] hk hl = absurd (omega arith)
turns_second zero (x ∷ k) (y ∷ l) hk hl = refl
turns_second (suc i) (x ∷ k) (y ∷ l) hk hl =
    ap (λ (n : ℕ). get_or (x ∷ y ∷ by_turns k l) (suc n) 0) (twice i) ∙ turns_second i k l (omega arith) (omega arith)

turns_none : (k : List ℕ) → by_turns k [] ≡ []
unfolding by_turns
turns_none [] = refl
turns_none (x ∷ k) = refl

turns_drop : (n : ℕ) (k l : List ℕ) → drop (n * 2) (by_turns k l) ≡ by_turns (drop n k) (drop n l)
unfolding by_turns
turns_drop zero k l = refl
turns_drop (suc n) [] l = ap (λ (m : ℕ). drop {A = ℕ} m []) (twice n)
turns_drop (suc n) (x ∷ k) [] = ap (λ (m : ℕ). drop {A = ℕ} m []) (twice n) ∙ sym (turns_none (drop n k))
turns_drop (suc n) (x ∷ k) (y ∷ l) = ap (λ (m : ℕ). drop m (x ∷ y ∷ by_turns k l)) (twice n) ∙ turns_drop n k l

turns_take : (n : ℕ) (k l : List ℕ) → take (n * 2) (by_turns k l) ≡ by_turns (take n k) (take n l)
unfolding by_turns
turns_take zero k l = refl
turns_take (suc n) [] l = ap (λ (m : ℕ). take {A = ℕ} m []) (twice n)
turns_take (suc n) (x ∷ k) [] = ap (λ (m : ℕ). take {A = ℕ} m []) (twice n)
turns_take (suc n) (x ∷ k) (y ∷ l) = ap (λ (m : ℕ). take m (x ∷ y ∷ by_turns k l)) (twice n) ∙ ap (λ (r : List ℕ). x ∷ y ∷ r) (turns_take n k l)

turns_length : (k l : List ℕ) → length l ≡ length k → length (by_turns k l) ≡ length k * 2
unfolding by_turns
turns_length [] l e = refl
turns_length (x ∷ k) [] e = absurd (omega arith)
turns_length (x ∷ k) (y ∷ l) e = omega (arith, turns_length k l (omega arith))

-- ---- the loop of `send_pairs`: i pairs are written
abbrev pub Pairing : List ℕ → List ℕ → List ℕ → ℕ → Type 0
Pairing first second pairs i = Filling (λ k x. x ≡ get_or (by_turns first second) k 0) 0 (length first * 2) pairs (i * 2)

module _ (first second : List ℕ) (same : length second ≡ length first) {pairs : List ℕ} {i : ℕ} (p : Pairing first second pairs i) where
  pub pairing_more : i < length first → Pairing first second (set (set pairs (i * 2) (get_or first i 0)) (i * 2 + 1) (get_or second i 0)) (i + 1)
  pairing_more h =
      let at : i * 2 + 1 ≡ suc (i * 2) = omega arith in
      let y : get_or second i 0 ≡ get_or (by_turns first second) (i * 2 + 1) 0 =
      sym (ap (λ (n : ℕ). get_or (by_turns first second) n 0) at ∙ turns_second i first second h (omega arith)) in
      let e : i * 2 + 1 + 1 ≡ (i + 1) * 2 = omega arith in
      subst (Filling (λ k x. x ≡ get_or (by_turns first second) k 0) 0 (length first * 2) _) e
      (filling_more (filling_more p _ (omega arith) (sym (turns_first i first second h (omega arith)))) _ (omega arith) y)

  pub pairing_done : length first ≤ i → pairs ≡ by_turns first second
  pairing_done h =
      filled_listed p (omega arith) ∙ sym (is_listed (length first * 2) _ 0 (by_turns first second) (turns_length first second same) (λ k b. refl))

-- ---- the loop of `send_runs`: so many runs are written, and the rest is as it was
module _ (first second : List ℕ) where
  abbrev pub run_from : ℕ → List ℕ
  run_from n = by_turns (take 26 (drop n first)) (take 26 (drop n second))

  abbrev pub runs_of : ℕ → List ℕ
  runs_of zero = []
  runs_of (suc n) = runs_of n ++ run_from (n * 27)

  pub record Sent (frame₀ frame : List ℕ) (run : ℕ) : Type 0 where
    pub size : length frame ≡ 260
    pub front : take (run * 52) frame ≡ runs_of run
    pub rest : drop (run * 52) frame ≡ drop (run * 52) frame₀

  bytes_take : (n : ℕ) (w : List Bool) → take n (bytes w) ≡ bytes (take n w)
  bytes_take zero w = refl
  bytes_take (suc n) [] = refl
  bytes_take (suc n) (b ∷ w) = ap (λ (l : List ℕ). byte b ∷ l) (bytes_take n w)

  run_bytes : (n : ℕ) (c : List Bool) → by_turns first second ≡ bytes c → run_from n ≡ bytes (take 52 (drop (n * 2) c))
  run_bytes n c e =
      sym (turns_take 26 (drop n first) (drop n second)) ∙ ap (take 52) (sym (turns_drop n first second) ∙ ap (drop (n * 2)) e ∙ bytes_drop (n * 2) c)
      ∙ bytes_take 52 (drop (n * 2) c)

  module _ (one : length first ≡ 108) (two : length second ≡ 108) {frame₀ frame : List ℕ} {run : ℕ} (s : Sent frame₀ frame run) where
    run_length : run < 4 → length (run_from (run * 27)) ≡ 52
    run_length h =
        let from : ℕ = run * 27 in
        let a : length (take 26 (drop from first)) ≡ 26 = length-take-le 26 (drop from first) (omega (arith, length-drop from first)) in
        let b : length (take 26 (drop from second)) ≡ 26 = length-take-le 26 (drop from second) (omega (arith, length-drop from second)) in
        omega (arith, turns_length (take 26 (drop from first)) (take 26 (drop from second)) (b ∙ sym a))

    pub sent_more : {part : List ℕ} {n m : ℕ} → run < 4 → n ≡ 52 → m ≡ 26 → part ≡ by_turns (take m (drop (run * 27) first)) (take m (drop (run * 27) second))
        → Sent frame₀ (put_mid (run * 52) n frame part) (run + 1)
    sent_more {part} {n} h en em told =
        let e : part ≡ run_from (run * 27) = told ∙ ap (λ (j : ℕ). by_turns (take j (drop (run * 27) first)) (take j (drop (run * 27) second))) em in
        let long : length part ≡ 52 = ap length e ∙ run_length h in
        let next : (run + 1) * 52 ≡ run * 52 + 52 = omega arith in
        let room : run * 52 ≤ length frame = omega (arith, s.size) in
        let more : runs_of (run + 1) ≡ runs_of run ++ run_from (run * 27) = ap runs_of (add-one run) in
        record {
          size = omega (arith, length-append (take (run * 52) frame) (part ++ post_of (run * 52) n frame), length-append part (post_of (run * 52) n frame), length-take-le (run * 52) frame room, length-drop n (drop (run * 52) frame), length-drop (run * 52) frame, s.size);
          front =
              take-put_mid (run * 52) n frame part ((run + 1) * 52) (omega arith) room ∙ ap₂ (λ (k l : List ℕ). k ++ l) s.front e ∙ sym more;
          rest =
              drop-put_mid (run * 52) n frame part ((run + 1) * 52) (omega arith) room (long ∙ sym en)
              ∙ ap (λ (m : ℕ). drop m frame) next ∙ sym (drop-drop 52 (run * 52) frame) ∙ ap (drop 52) s.rest ∙ drop-drop 52 (run * 52) frame₀
              ∙ ap (λ (m : ℕ). drop m frame₀) (sym next);
        }

  pub sent_done : {frame₀ frame : List ℕ} → Sent frame₀ frame 4 → (c : List Bool) → by_turns first second ≡ bytes c → frame ≡ bytes (sent_of c) ++ drop 208 frame₀
  unfolding sent_of
  sent_done {frame₀} {frame} s c e =
      let a : List Bool = take 52 c in
      let b : List Bool = take 52 (drop 54 c) in
      let d : List Bool = take 52 (drop 108 c) in
      let f : List Bool = take 52 (drop 162 c) in
      let out : bytes (a ++ (b ++ (d ++ f))) ≡ ((run_from 0 ++ run_from 27) ++ run_from 54) ++ run_from 81 =
      ap bytes (sym (append_assoc (a ++ b) d f ∙ append_assoc a b (d ++ f)))
      ∙ bytes-append ((a ++ b) ++ d) f
      ∙ ap₂ (λ (k l : List ℕ). k ++ l)
      (bytes-append (a ++ b) d
      ∙ ap₂ (λ (k l : List ℕ). k ++ l)
      (bytes-append a b ∙ ap₂ (λ (k l : List ℕ). k ++ l) (sym (run_bytes 0 c e)) (sym (run_bytes 27 c e)))
      (sym (run_bytes 54 c e)))
      (sym (run_bytes 81 c e)) in
      sym (take-append-drop 208 frame) ∙ ap₂ (λ (k l : List ℕ). k ++ l) (s.front ∙ sym out) s.rest

-- ---- `send`: the inputs after five zeros
coded_turns : (m u : List Bool) → by_turns (bytes (coded (take 1 acelp) m u)) (bytes (coded (drop 1 acelp) m u)) ≡ bytes (coded acelp m u)
unfolding coded by_turns
coded_turns m [] = refl
coded_turns m (x ∷ u) =
    ap (λ (l : List ℕ). byte (tapped (get_or acelp 0 []) (x ∷ m)) ∷ byte (tapped (get_or acelp 1 []) (x ∷ m)) ∷ l) (coded_turns (x ∷ m) u)

module _ (inputs : List ℕ) {part : List ℕ} (copied : part ≡ inputs) where
  abbrev line : List ℕ
  line = 0 ∷ 0 ∷ 0 ∷ 0 ∷ 0 ∷ (part ++ [])

  e : line ≡ 0 ∷ 0 ∷ 0 ∷ 0 ∷ 0 ∷ inputs
  e = ap (λ (l : List ℕ). 0 ∷ 0 ∷ 0 ∷ 0 ∷ 0 ∷ l) (append-nil part ∙ copied)

  pub line_asked : length inputs ≡ 108 → all_binary inputs ≡ true → (length line ≡ 113) × (◌≡◌ {A = ℕ} 108 108) × (all_binary line ≡ true)
  unfolding all_below
  line_asked size binary = (ap length e ∙ ap (λ (n : ℕ). suc (suc (suc (suc (suc n))))) size, refl, ap all_binary e ∙ binary)

  pub outputs-coded : {first second : List ℕ} → first ≡ bytes (coded (take 1 acelp) (reverse (take 5 (bits line))) (drop 5 (bits line)))
      → second ≡ bytes (coded (drop 1 acelp) (reverse (take 5 (bits line))) (drop 5 (bits line)))
      → by_turns first second ≡ bytes (coded acelp (memory_low 0) (bits inputs))
  outputs-coded f s =
      ap₂ by_turns f s ∙ coded_turns (reverse (take 5 (bits line))) (drop 5 (bits line))
      ∙ ap (λ (l : List ℕ). bytes (coded acelp (reverse (take 5 (bits l))) (drop 5 (bits l)))) e
