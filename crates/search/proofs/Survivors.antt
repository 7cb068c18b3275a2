-- The traceback by stored predecessors reads the survivor's word; the engine's bytes also hold its tie. Assumes nothing.
use mathlib.Core.Path.{◌≡◌, refl, sym, ap, ap₂, ◌∙◌}
use mathlib.Core.Bool.{Bool, true, false, cond}
use mathlib.Core.List.{List, [], ◌∷◌, reverse, reverse_aux}
use Prim.Native.Nat.{ℕ, zero, suc, ◌+◌, ◌<◌, ◌≤◌, ◌%◌}
use native.Mathlib.Omega.{arith}
use native.Mathlib.Decide.{ℕ_discrete, dec_le}
use lib.Dec.{leb, eqb, ltb}
use lib.ListN.{get_or}
use borrow.Author.Tests.{le-leb, lt-leb}
use Rattle.bits.specs.Bits.{byte, bytes}
use Rattle.trellis.specs.Numbering.{Numbering, pred_low, newest_low}
use Rattle.trellis.specs.Trellis.{Trellis, Costs, wholes, candidate, decision, survivor, tie, word}
use Rattle.trellis.proofs.Registers.{Register, register_low_lem, low_bit}
use Rattle.search.proofs.Selecting.{mark_set, mark_none, decide_le}
use Rattle.search.specs.Select.{decide_of, tie_mark_of, byte_of}
use Rattle.search.specs.Forward.{BytesTo, engine}
use Rattle.search.specs.Traceback.{traced, from_byte, lowest, tie_with, tied_bytes}
use Rattle.trellis.proofs.Optimal as opt

-- ---- over any costs: what is traced by the decided predecessors is the survivor's word
module _ {C : Type 0} (K : Costs C) (N : Numbering) (reg : Register N) (branch : ℕ → ℕ → Bool → C) (start : ℕ → C)
    (newest : ℕ → ℕ) (is-newest : (t : ℕ) → t < 32 → newest t ≡ byte (N.newest t)) (from : ℕ → ℕ → ℕ) where
  pub traced-word : (n t : ℕ) (after : List Bool) → t < 32
      → ((k s : ℕ) → k < n → s < 32 → from k s ≡ N.pred s (decision K (record { numbering = N; branch = branch; start = start }) k s))
      → traced newest from n t (bytes after) ≡ bytes (reverse_aux (word N t (survivor K (record { numbering = N; branch = branch; start = start }) n t)) after)
  unfolding traced word survivor
  traced-word zero t after h p = refl
  traced-word (suc n) t after h p =
      let v : Bool = decision K (record { numbering = N; branch = branch; start = start }) n t in
      ap₂ (λ (s x : ℕ). traced newest from n s (x ∷ bytes after)) (p n t (omega arith) h) (is-newest t h)
      ∙ traced-word n (N.pred t v) (N.newest t ∷ after) (reg.pred_below t v h) (λ k s hk hs. p k s (omega arith) hs)

-- ---- the predecessor byte

-- its low five bits are the predecessor chosen
byte_state : (lower upper t : ℕ) → t < 32 → byte_of lower upper (pred_low t false) % 32 ≡ pred_low t (ltb upper lower)
unfolding decide_of tie_mark_of
byte_state lower upper t h = go (ltb upper lower) (eqb lower upper)
  where
    go : (d e : Bool) → (pred_low t false + cond d 16 0 + cond e 96 0) % 32 ≡ pred_low t d
    go true true = omega arith
    go true false = omega arith
    go false true = omega arith
    go false false = omega arith

-- the next byte says that both cost the same
mark_even : (lower upper t : ℕ) → lower ≡ upper → leb 32 (byte_of lower upper (pred_low t false)) ≡ true
mark_even lower upper t e = le-leb 32 (byte_of lower upper (pred_low t false)) (omega (arith, mark_set lower upper e))

mark_odd : (lower upper t : ℕ) → t < 32 → (lower ≡ upper → ⊥) → leb 32 (byte_of lower upper (pred_low t false)) ≡ false
mark_odd lower upper t h ne = lt-leb 32 (byte_of lower upper (pred_low t false)) (omega (arith, mark_none lower upper ne, decide_le lower upper))

module _ (branch : ℕ → ℕ → Bool → ℕ) (start : List ℕ) where
  abbrev X : Trellis ℕ
  X = engine branch start

  -- the state that a byte of the path leads back to
  back : (ps : List (List ℕ)) (n t : ℕ) → t < 32 → BytesTo X ps (suc n) → get_or (get_or ps n []) t 0 % 32 ≡ pred_low t (decision wholes X n t)
  back ps n t h rows =
      ap (λ (x : ℕ). x % 32) (rows n (omega arith) t h) ∙ byte_state (candidate wholes X n t false) (candidate wholes X n t true) t h

  -- what is traced is the survivor's word
  pub bytes_word : (ps : List (List ℕ)) (n t : ℕ) → t < 32 → BytesTo X ps n
      → traced lowest (from_byte ps) n t [] ≡ bytes (reverse (word newest_low t (survivor wholes X n t)))
  bytes_word ps n t h rows =
      traced-word wholes newest_low register_low_lem branch (λ s. get_or start s 0) lowest (λ s hs. sym (low_bit s hs)) (from_byte ps) n t [] h
      (λ k s hk hs. back ps k s hs (λ j hj. rows j (omega arith)))

  -- one byte's part of the tie
  module _ (since n t : ℕ) (ht : t < 32) where
    abbrev lower : ℕ
    lower = candidate wholes X n t false

    abbrev upper : ℕ
    upper = candidate wholes X n t true

    abbrev rest : Bool
    rest = tie X since n (pred_low t (decision wholes X n t))

    abbrev mark : Bool
    mark = leb 32 (byte_of lower upper (pred_low t false))

    neither : (l : Bool) → cond l false false ≡ false
    neither true = refl
    neither false = refl

    first_mark : Dec (lower ≡ upper) → Dec (since ≤ n) → cond (cond (leb since n) mark false) true rest ≡ tie X since (suc n) t
    first_mark (yes e) (yes h) =
        ap₂ (λ (l m : Bool). cond (cond l m false) true rest) (le-leb since n h) (mark_even lower upper t e)
        ∙ sym (opt.tie_even X since n t e ∙ le-leb since n h)
    first_mark (yes e) (no h) =
        ap (λ (l : Bool). cond (cond l mark false) true rest) (lt-leb since n (omega arith))
        ∙ opt.tie_early X since n (pred_low t (decision wholes X n t)) (omega arith)
        ∙ sym (opt.tie_even X since n t e ∙ lt-leb since n (omega arith))
    first_mark (no ne) d =
        ap (λ (m : Bool). cond (cond (leb since n) m false) true rest) (mark_odd lower upper t ht ne)
        ∙ ap (λ (m : Bool). cond m true rest) (neither (leb since n))
        ∙ sym (opt.tie_odd X since n t ne)

    tie_step : (acc : Bool) → cond (tie_with acc (byte_of lower upper (pred_low t false)) (leb since n)) true rest ≡ cond acc true (tie X since (suc n) t)
    tie_step true = refl
    tie_step false = first_mark (ℕ_discrete lower upper) (dec_le since n)

  -- what is tied_bytes is the survivor's tie
  pub tied_bytes_lem : (ps : List (List ℕ)) (since n t : ℕ) (acc : Bool) → t < 32 → BytesTo X ps n
      → tied_bytes ps since n t acc ≡ cond acc true (tie X since n t)
  unfolding tied_bytes tie
  tied_bytes_lem ps since zero t true h rows = refl
  tied_bytes_lem ps since zero t false h rows = refl
  tied_bytes_lem ps since (suc n) t acc h rows =
      let p : ℕ = pred_low t (decision wholes X n t) in
      ap₂ (λ (s x : ℕ). tied_bytes ps since n s (tie_with acc x (leb since n))) (back ps n t h rows) (rows n (omega arith) t h)
      ∙ tied_bytes_lem ps since n p _ (register_low_lem.pred_below t (decision wholes X n t) h) (λ j hj. rows j (omega arith))
      ∙ tie_step since n t h acc
