-- The loop over a word's eleven slots: the sixes below k are encoded, and their rows stand after the twelve that the encoder held. Assumes nothing.
use mathlib.Core.Path.{◌≡◌, refl, sym, ap, ap₂, subst, ◌∙◌}
use mathlib.Core.List.{List, [], ◌∷◌, ◌++◌}
use Prim.Native.Nat.{ℕ, zero, suc, ◌+◌, ◌%◌, ◌≤◌, ◌<◌}
use native.Mathlib.Nat.{zero-add}
use native.Mathlib.Numerals.{add-one}
use native.Mathlib.Omega.{arith}
use lib.ListN.{length, get_or, take, drop, set, length-set}
use lib.Seq.{get_or-drop, get_or-take}
use Rattle.bits.specs.Places.{listed}
use Rattle.bits.proofs.Filled.{set_more}
use Rattle.bits.proofs.Listed.{is_listed}
use Rattle.bits.proofs.Ring.{Holds, holds_next}
use Rattle.sacch_interleaver.specs.Diagonal.{field_of, laid_out}
use Rattle.sacch_interleaver.proofs.Diagonal.{diagonal, field_of_lem}
use Rattle.sacch_interleaver.proofs.LaidOut.{laid_length, laid_at}
use Rattle.sacch_interleaver.proofs.Rings.{after, after_start, after_then}
use Rattle.sacch_encoder.specs.Encoder.{encoded, encoded_all, fields_from, field_now}
use Rattle.sacch_encoder.specs.Words.{coded_row, memory_after}
use Rattle.sacch_encoder.specs.declared.SacchEncoder.{SacchEncoder}
use Rattle.sacch_encoder.proofs.Fits.{memory_next, cursor_next}

listed_snoc : {A : Type 0} (n : ℕ) (f : ℕ → A) → listed (suc n) f ≡ listed n f ++ (f n ∷ [])
unfolding listed
listed_snoc zero f = refl
listed_snoc {A} (suc n) f = ap (λ (l : List A). f 0 ∷ l) (listed_snoc n (λ i. f (suc i)))

listed_more : {A : Type 0} (k : ℕ) (f : ℕ → A) → listed k f ++ (f k ∷ []) ≡ listed (k + 1) f
listed_more k f = sym (listed_snoc k f) ∙ ap (λ (n : ℕ). listed n f) (sym (add-one k))

-- one six more at the end
pub all_snoc : (sixes : List ℕ) (six : ℕ) (e : SacchEncoder) → encoded_all e (sixes ++ (six ∷ [])) ≡ encoded (encoded_all e sixes) six
unfolding encoded_all
all_snoc [] six e = refl
all_snoc (y ∷ sixes) six e = all_snoc sixes six (encoded e y)

pub fields_snoc : (sixes : List ℕ) (six : ℕ) (e : SacchEncoder)
    → fields_from e (sixes ++ (six ∷ [])) ≡ fields_from e sixes ++ (field_now (encoded (encoded_all e sixes) six) ∷ [])
unfolding encoded_all fields_from
fields_snoc [] six e = refl
fields_snoc (y ∷ sixes) six e = ap (λ (l : List ℕ). field_now (encoded e y) ∷ l) (fields_snoc sixes six (encoded e y))

-- a row stored over the oldest
pub stored : (e : SacchEncoder) (six : ℕ) {row memory : ℕ} → row ≡ coded_row e.memory six → memory ≡ memory_after e.memory six
    → ◌≡◌ {A = SacchEncoder} (record { memory = memory; rows = set e.rows e.cursor row; cursor = (e.cursor + 1) % 12 }) (encoded e six)
unfolding encoded
stored e six er em = cc

-- ---- the rows on air: the twelve that the encoder held, oldest first, then those of the sixes
abbrev rows_sent : SacchEncoder → (ℕ → ℕ) → ℕ → ℕ
rows_sent e f = after 12 e.rows e.cursor (λ (i : ℕ). coded_row (encoded_all e (listed i f)).memory (f i))

-- an encoder whose ring holds the rows from n on of a stream
pub record Held (stream : ℕ → ℕ) (e : SacchEncoder) (n : ℕ) : Type 0 where
  pub size : length e.rows ≡ 12
  pub cursor : e.cursor < 12
  pub holds : Holds 12 e.rows e.cursor stream n

held_next : {stream : ℕ → ℕ} {e : SacchEncoder} {n : ℕ} (six : ℕ) → Held stream e n → stream (n + 12) ≡ coded_row e.memory six → Held stream (encoded e six) (suc n)
unfolding encoded
held_next {stream} {e} {n} six h r =
    record {
      size = length-set e.rows e.cursor (coded_row e.memory six) ∙ h.size;
      cursor = cursor_next e six refl;
      holds = holds_next 12 e.rows e.cursor stream n (coded_row e.memory six) h.size h.cursor r h.holds;
    }

pub record Slots (start : SacchEncoder) (f : ℕ → ℕ) (e : SacchEncoder) (run : List ℕ) (k : ℕ) : Type 0 where
  pub low : k ≤ 11
  pub size : length run ≡ 23
  pub memory : e.memory < 32
  pub held : Held (rows_sent start f) e k
  pub so_far : e ≡ encoded_all start (listed k f)
  pub right : (i : ℕ) → i < 12 + k → get_or run i 0 ≡ rows_sent start f i
  pub made : fields_from start (listed k f) ≡ listed k (λ i. diagonal (rows_sent start f) (suc i))

pub slots_none : {start : SacchEncoder} {f : ℕ → ℕ} {run : List ℕ} → start.memory < 32 → start.cursor < 12 → length start.rows ≡ 12
    → run ≡ laid_out start.rows start.cursor → Slots start f start run 0
unfolding listed encoded_all fields_from
slots_none {start} {f} {run} m c l laid =
    let first : Holds 12 start.rows start.cursor (rows_sent start f) 0 = after_start 12 start.rows start.cursor (λ i. coded_row (encoded_all start (listed i f)).memory (f i)) in
    record {
      low = omega arith;
      size = ap length laid ∙ laid_length start.rows start.cursor;
      memory = m;
      held = record { size = l; cursor = c; holds = first };
      so_far = refl;
      right = λ i h. ap (λ (x : List ℕ). get_or x i 0) laid ∙ laid_at start.rows start.cursor i (omega arith) ∙ first i (omega arith) ∙ ap (rows_sent start f) (zero-add i);
      made = refl;
    }

module _ {start e : SacchEncoder} {f : ℕ → ℕ} {run : List ℕ} {k : ℕ} (s : Slots start f e run k) where
  -- the row of slot k
  row_sent : {six row : ℕ} (n : ℕ) → n ≡ k + 12 → six ≡ f k → row ≡ coded_row e.memory six → row ≡ rows_sent start f n
  row_sent n en es er =
      er ∙ ap₂ (λ (d : SacchEncoder) (x : ℕ). coded_row d.memory x) s.so_far es
      ∙ sym (after_then 12 start.rows start.cursor (λ i. coded_row (encoded_all start (listed i f)).memory (f i)) k n en)

  pub slots_more : {six row : ℕ} {next : SacchEncoder} → k < 11 → six ≡ f k → row ≡ coded_row e.memory six → next ≡ encoded e six
      → Slots start f next (set run (12 + k) row) (k + 1)
  slots_more {six} {row} {next} h es er en =
      let same : next ≡ encoded (encoded_all start (listed k f)) (f k) = en ∙ ap₂ encoded s.so_far es in
      let at : Held (rows_sent start f) next (suc k) =
      subst (λ (d : SacchEncoder). Held (rows_sent start f) d (suc k)) (sym en) (held_next six s.held (sym (row_sent (k + 12) refl es refl))) in
      record {
        low = omega arith;
        size = length-set run (12 + k) row ∙ s.size;
        memory = memory_next e six en;
        held = subst (Held (rows_sent start f) next) (sym (add-one k)) at;
        so_far = same ∙ sym (all_snoc (listed k f) (f k) start) ∙ ap (encoded_all start) (listed_more k f);
        right = λ i b. set_more run 0 (rows_sent start f) (12 + k) row (omega (arith, s.size)) (row_sent (12 + k) (omega arith) es er) s.right i (omega arith);
        made =
            ap (fields_from start) (sym (listed_more k f)) ∙ fields_snoc (listed k f) (f k) start
            ∙ ap₂ (λ (l : List ℕ) (y : ℕ). l ++ (y ∷ [])) s.made
            (ap (λ (d : SacchEncoder). field_now d) (sym same) ∙ field_of_lem next.rows next.cursor (rows_sent start f) (suc k) at.holds)
            ∙ listed_more k (λ i. diagonal (rows_sent start f) (suc i));
      }

  -- the field of slot i from the run
  field_run : 11 ≤ k → (i : ℕ) → i < 11 → field_of (take 12 (drop (i + 1) run)) 0 ≡ diagonal (rows_sent start f) (suc i)
  field_run full i h = field_of_lem (take 12 (drop (i + 1) run)) 0 (rows_sent start f) (suc i) part
    where
      part : Holds 12 (take 12 (drop (i + 1) run)) 0 (rows_sent start f) (suc i)
      part j b =
          let e : (0 + j) % 12 ≡ j = omega arith in
          let n : i + 1 + j ≡ suc i + j = omega arith in
          ap (λ (m : ℕ). get_or (take 12 (drop (i + 1) run)) m 0) e ∙ get_or-take 12 (drop (i + 1) run) j 0 b ∙ get_or-drop (i + 1) run j 0
          ∙ s.right (i + 1 + j) (omega arith) ∙ ap (rows_sent start f) n

  pub slots_done : 11 ≤ k → {fields : List ℕ} → length fields ≡ 11 → ((i : ℕ) → i < 11 → get_or fields i 0 ≡ field_of (take 12 (drop (i + 1) run)) 0)
      → (e ≡ encoded_all start (listed 11 f)) × (fields ≡ fields_from start (listed 11 f))
  slots_done h {fields} size told =
      let all : k ≡ 11 = omega (arith, s.low) in (
        s.so_far ∙ ap (λ (n : ℕ). encoded_all start (listed n f)) all,
        is_listed 11 (λ i. diagonal (rows_sent start f) (suc i)) 0 fields size (λ i b. told i b ∙ field_run h i b)
            ∙ ap (λ (n : ℕ). listed n (λ i. diagonal (rows_sent start f) (suc i))) (sym all) ∙ sym s.made
            ∙ ap (λ (n : ℕ). fields_from start (listed n f)) all,
      )
