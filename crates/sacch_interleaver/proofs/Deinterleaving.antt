-- The deinterleaver's state, and the rows that it answers: from a fresh one, a row comes with the twelfth field and with each after it. Assumes nothing.
use mathlib.Core.Path.{◌≡◌, refl, sym, ◌∙◌, ap}
use mathlib.Core.Bool.{Bool, true, false, cond, ◌&&◌, false≢true}
use mathlib.Core.List.{List, [], ◌∷◌}
use Prim.Native.Nat.{ℕ, zero, suc, ◌+◌, ◌-◌, ◌≤◌, ◌<◌, min}
use native.Mathlib.Decide.{dec_lt}
use native.Mathlib.Nat.{zero-add}
use native.Mathlib.Omega.{arith}
use borrow.Author.Tests.{lt-ltb, le-ltb, ltb-true}
use lib.Dec.{ltb}
use lib.ListN.{get_or, length, replicate, length-set}
use Rattle.std.specs.Prelude.{Option, None, Some, Result, Ok}
use Rattle.bits.specs.Bits.{all_below}
use Rattle.bits.specs.Numbers.{packed}
use Rattle.bits.specs.Places.{listed}
use Rattle.bits.specs.declared.Refusal.{Refusal}
use Rattle.bits.specs.declared.Refusal.TheVariants.{State}
use Rattle.bits.proofs.Below.{below_head, below_tail, below_set}
use Rattle.bits.proofs.Refusing.{test_passed}
use Rattle.bits.proofs.Ring.{Holds, holds_next}
use Rattle.sacch_interleaver.specs.Diagonal.{all_twelve, bit_of}
use Rattle.sacch_interleaver.specs.Deinterleaver.{Deinterleaved, deinterleaver_fits, deinterleaver_state, field_stored, fresh_deinterleaver, push_row_of, row_answers, row_found, row_heard, stored_of}
use Rattle.sacch_interleaver.specs.declared.SacchDeinterleaver.{SacchDeinterleaver}
use Rattle.sacch_interleaver.proofs.Diagonal.{row_of_lem, twelve_same}
use Rattle.sacch_interleaver.proofs.Rings.{after, after_start, after_then}

-- ---- the tests of the state
pub and_parts : (a b : Bool) → (a && b) ≡ true → (a ≡ true) × (b ≡ true)
and_parts true b t = (refl, t)
and_parts false b t = absurd (false≢true t)

pub record Fit (d : SacchDeinterleaver) : Type 0 where
  pub cursor : d.cursor < 12
  pub received : d.received < 13
  pub fields : all_twelve d.fields ≡ true

pub fit_of : (d : SacchDeinterleaver) → deinterleaver_fits d ≡ true → Fit d
unfolding deinterleaver_fits
fit_of d t =
    let all = and_parts (ltb d.cursor 12 && ltb d.received 13) (all_twelve d.fields) t in
    let counts = and_parts (ltb d.cursor 12) (ltb d.received 13) all.0 in
    record { cursor = ltb-true _ _ counts.0; received = ltb-true _ _ counts.1; fields = all.1 }

pub fits_of : (d : SacchDeinterleaver) → Fit d → deinterleaver_fits d ≡ true
unfolding deinterleaver_fits
fits_of d f = rw (lt-ltb _ _ f.cursor, lt-ltb _ _ f.received) f.fields

pub passed_state : (d : SacchDeinterleaver) → deinterleaver_state d ≡ Ok tt → Fit d
passed_state d e = fit_of d (test_passed (deinterleaver_fits d) State (Ok tt) e).0

-- a field of twelve bits keeps it
pub stored_fits : (d : SacchDeinterleaver) (field : ℕ) → Fit d → field < 4096 → Fit (field_stored d field)
unfolding field_stored
stored_fits d field f small = record { cursor = omega arith; received = omega arith; fields = below_set 4096 d.fields d.cursor field f.fields small }

-- ---- fields one after the other
pub push_stores : (d : SacchDeinterleaver) (field : ℕ) → Fit d → field < 4096 → push_row_of d field ≡ stored_of d field
unfolding push_row_of
push_stores d field f h = rw (fits_of d f, lt-ltb field 4096 h)

-- the ring of a fresh one, then the fields of a stream
abbrev seen : (ℕ → ℕ) → ℕ → ℕ
seen stream = after 12 (replicate 12 0) 0 stream

-- the row that the newest of n fields of a stream completes, and what a push of it answers
abbrev row_at : (ℕ → ℕ) → ℕ → Option ℕ
row_at stream n = cond (ltb n 12) None (Some (packed (listed 12 (λ (j : ℕ). bit_of (stream (n - 12 + j)) j))))

abbrev told : (ℕ → ℕ) → ℕ → Result (Option ℕ) Refusal
told stream n = Ok (row_at stream (suc n))

-- with n fields of the stream
record Received (stream : ℕ → ℕ) (d : SacchDeinterleaver) (n : ℕ) : Type 0 where
  fit : Fit d
  size : length d.fields ≡ 12
  holds : Holds 12 d.fields d.cursor (seen stream) n
  count : d.received ≡ min 12 n

module _ {stream : ℕ → ℕ} {d : SacchDeinterleaver} {n : ℕ} (r : Received stream d n) (field : ℕ) (small : field < 4096) (here : field ≡ stream n) where
  received_more : Received stream (field_stored d field) (suc n)
  unfolding field_stored
  received_more =
      record {
        fit = stored_fits d field r.fit small;
        size = length-set d.fields d.cursor field ∙ r.size;
        holds = holds_next 12 d.fields d.cursor (seen stream) n field r.size r.fit.cursor
            (after_then 12 (replicate 12 0) 0 stream n (n + 12) refl ∙ sym here) r.holds;
        count = omega (arith, r.count);
      }

  -- the row of the newest twelve
  found : row_found (field_stored d field) ≡ row_at stream (suc n)
  unfolding row_found
  found = elim (dec_lt (suc n) 12) [
    | yes h ↦
        let c : (field_stored d field).received < 12 = omega (arith, received_more.count) in
        rw (lt-ltb (field_stored d field).received 12 c, lt-ltb (suc n) 12 h)
    | no h ↦
        let full : 12 ≤ suc n = omega arith in
        let c : 12 ≤ (field_stored d field).received = omega (arith, received_more.count) in
        rw (le-ltb (field_stored d field).received 12 c, le-ltb (suc n) 12 full)
        (ap Some
        (row_of_lem _ _ (seen stream) (suc n) received_more.holds
        ∙ twelve_same (λ j. bit_of (seen stream (suc n + j)) j) (λ j. bit_of (stream (suc n - 12 + j)) j)
        (λ j b. ap (λ (x : ℕ). bit_of x j) (after_then 12 (replicate 12 0) 0 stream (suc n - 12 + j) (suc n + j) (omega arith)))))
  ]

rows_at : (fields : List ℕ) {stream : ℕ → ℕ} {d : SacchDeinterleaver} (n : ℕ) → Received stream d n → all_twelve fields ≡ true
    → ((i : ℕ) → i < length fields → get_or fields i 0 ≡ stream (n + i)) → (i : ℕ) → i < length fields
    → get_or (row_answers d fields) i (Ok None) ≡ told stream (n + i)
unfolding row_answers
rows_at [] n r t same i hi = absurd (omega arith)
rows_at (field ∷ fields) {stream} {d} n r t same zero hi =
    let h : field < 4096 = below_head 4096 field fields t in
    let none : n + 0 ≡ n = omega arith in
    ap (λ (m : Deinterleaved). m.answer) (push_stores d field r.fit h) ∙ ap Ok (found r field h (same 0 hi ∙ ap stream none)) ∙ ap (told stream) (sym none)
rows_at (field ∷ fields) {stream} {d} n r t same (suc i) hi =
    let h : field < 4096 = below_head 4096 field fields t in
    let none : n + 0 ≡ n = omega arith in
    let more : suc n + i ≡ n + suc i = omega arith in
    ap (λ (m : Deinterleaved). get_or (row_answers m.deinterleaver fields) i (Ok None)) (push_stores d field r.fit h)
    ∙ rows_at fields (suc n) (received_more r field h (same 0 (omega arith) ∙ ap stream none)) (below_tail 4096 field fields t)
    (λ k hk. let next : n + suc k ≡ suc n + k = omega arith in same (suc k) (omega arith) ∙ ap stream next) i (omega arith)
    ∙ ap (told stream) more

fresh_received : (stream : ℕ → ℕ) → Received stream fresh_deinterleaver 0
unfolding fresh_deinterleaver all_below
fresh_received stream =
    record {
      fit = record { cursor = omega arith; received = omega arith; fields = refl };
      size = refl;
      holds = after_start 12 (replicate 12 0) 0 stream;
      count = refl;
    }

-- a fresh deinterleaver answers nothing before the twelfth field, and from there on the row that each completes
pub row_with_12th : (fields : List ℕ) → all_twelve fields ≡ true → (n : ℕ) → 1 ≤ n → n ≤ length fields
    → get_or (row_answers fresh_deinterleaver fields) (n - 1) (Ok None) ≡ Ok (cond (ltb n 12) None (Some (row_heard fields n)))
row_with_12th fields t n one h =
    let stream : ℕ → ℕ = λ i. get_or fields i 0 in
    let same : suc (0 + (n - 1)) ≡ n = omega arith in
    rows_at fields 0 (fresh_received stream) t (λ i hi. ap stream (sym (zero-add i))) (n - 1) (omega arith)
    ∙ ap (λ (k : ℕ). Ok (cond (ltb k 12) None (Some (row_heard fields k)))) same
