-- Parts of 260 bytes, written one after another: a place, the columns of a row, every so many rows. Assumes nothing.
use Rattle.std.proofs.Common.{◌≡◌, ℕ, ◌+◌, ◌*◌, ◌/◌, ◌%◌, ◌<◌, ◌≤◌, List, length, get_or, set, Bool, cond, refl, sym, ap, subst, ◌∙◌, arith}
use Rattle.std.proofs.Math.Nat.{add-mod_right, div-add-mod, mod-eq_of_lt, mul-le-mul_left}
use native.Mathlib.Decide.{ℕ_discrete, dec_lt}
use lib.Dec.{eqb}
use lib.ListN.{length-set}
use lib.Seq.{get_or-set_same, get_or-set_other}
use borrow.Author.Tests.{eq-eqb, ne_eqb}
use Rattle.bits.specs.Places.{listed}
use Rattle.bits.proofs.Listed.{is_listed}
use Rattle.interleaving.specs.Parts.{Part, wire_for, read_for}
use Rattle.interleaving.specs.Slots.{by_row}

-- nothing is written yet
pub part_none : {Of : ℕ → Type 0} {f : ℕ → ℕ} {out : List ℕ} → length out ≡ 260 → ((p : ℕ) → Of p → ⊥) → Part Of f out out
part_none e none = record { size = e; right = λ p b o. absurd (none p o); kept = λ p b n. refl }

-- one place more
pub part_set : {Of More : ℕ → Type 0} {f : ℕ → ℕ} {out₀ out : List ℕ} → Part Of f out₀ out → {q v : ℕ} → q < 260 → v ≡ f q → More q
    → ((p : ℕ) → p < 260 → More p → (p ≡ q → ⊥) → Of p) → ((p : ℕ) → Of p → More p) → Part More f out₀ (set out q v)
part_set {Of} {More} {f} {out₀} {out} s {q} {v} h e here other more =
    record {
      size = length-set out q v ∙ s.size;
      right = λ p b o. right p b o (ℕ_discrete p q);
      kept = λ p b n. get_or-set_other out q p v 0 (λ same. n (subst More (sym same) here)) ∙ s.kept p b (λ o. n (more p o));
    }
  where
    right : (p : ℕ) → p < 260 → More p → Dec (p ≡ q) → get_or (set out q v) p 0 ≡ f p
    right p b o (yes same) = ap (λ (i : ℕ). get_or (set out q v) i 0) same ∙ get_or-set_same out q v 0 (omega (arith, s.size)) ∙ e ∙ ap f (sym same)
    right p b o (no n) = get_or-set_other out q p v 0 n ∙ s.right p b (other p b o n)

-- one part after another
pub part_onto : {Of Then Both : ℕ → Type 0} {f : ℕ → ℕ} {out₀ out out' : List ℕ} → Part Of f out₀ out → Part Then f out out' → ((p : ℕ) → Dec (Then p))
    → ((p : ℕ) → Both p → (Then p → ⊥) → Of p) → ((p : ℕ) → Of p → Both p) → ((p : ℕ) → Then p → Both p) → Part Both f out₀ out'
part_onto {Of} {Then} {Both} {f} {out₀} {out} {out'} s t decide either one two =
    record {
      size = t.size;
      right = λ p b o. go p b o (decide p);
      kept = λ p b n. t.kept p b (λ o. n (two p o)) ∙ s.kept p b (λ o. n (one p o));
    }
  where
    go : (p : ℕ) → p < 260 → Both p → Dec (Then p) → get_or out' p 0 ≡ f p
    go p b o (yes i) = t.right p b i
    go p b o (no n) = t.kept p b n ∙ s.right p b (either p o n)

-- the same part, said in another way
pub part_same : {Of As : ℕ → Type 0} {f : ℕ → ℕ} {out₀ out : List ℕ} → Part Of f out₀ out
    → ((p : ℕ) → p < 260 → As p → Of p) → ((p : ℕ) → p < 260 → Of p → As p) → Part As f out₀ out
part_same s to back = record { size = s.size; right = λ p b o. s.right p b (to p b o); kept = λ p b n. s.kept p b (λ o. n (back p b o)) }

-- the same bytes, said in another way
pub part_as : {Of : ℕ → Type 0} {f g : ℕ → ℕ} {out₀ out : List ℕ} → Part Of f out₀ out → ((p : ℕ) → p < 260 → Of p → f p ≡ g p) → Part Of g out₀ out
part_as s same = record { size = s.size; right = λ p b o. s.right p b o ∙ same p b o; kept = s.kept }

-- all of the bytes, where what the part left is right too
pub part_listed : {Of : ℕ → Type 0} {f g : ℕ → ℕ} {out₀ out : List ℕ} → Part Of f out₀ out → ((p : ℕ) → Dec (Of p))
    → ((p : ℕ) → p < 260 → Of p → f p ≡ g p) → ((p : ℕ) → p < 260 → (Of p → ⊥) → get_or out₀ p 0 ≡ g p) → out ≡ listed 260 g
part_listed {Of} {f} {g} {out₀} {out} s decide written left = is_listed 260 g 0 out s.size (λ p b. go p b (decide p))
  where
    go : (p : ℕ) → p < 260 → Dec (Of p) → get_or out p 0 ≡ g p
    go p b (yes o) = s.right p b o ∙ written p b o
    go p b (no n) = s.kept p b n ∙ left p b n

-- ---- the columns of a row: those below k are written
pub record Columns (wire_of f : ℕ → ℕ) (row : ℕ) (out₀ out : List ℕ) (k : ℕ) : Type 0 where
  pub part : Part (λ p. (wire_of p / 10 ≡ row) × (wire_of p % 10 < k)) f out₀ out

module _ {wire_of f : ℕ → ℕ} {row : ℕ} {out₀ out : List ℕ} {k : ℕ} (s : Columns wire_of f row out₀ out k) where
  -- q is the only place of its bit
  pub columns_more : {q v : ℕ} → k < 10 → q < 260 → wire_of q ≡ row * 10 + k → v ≡ f q
      → ((p : ℕ) → p < 260 → wire_of p ≡ wire_of q → p ≡ q) → Columns wire_of f row out₀ (set out q v) (k + 1)
  columns_more {q} b h w e once =
      record {
        part = part_set s.part h e (omega arith, omega arith)
            (λ p b o n. (o.0, let m : wire_of p ≡ wire_of q → ⊥ = λ same. n (once p b same) in omega arith)) (λ p o. (o.0, omega arith));
      }

-- copied between a frame and a slot
abbrev pub CopiedColumns : Bool → (ℕ → ℕ → ℕ) → (ℕ → ℕ) → List ℕ → ℕ → List ℕ → List ℕ → ℕ → Type 0
CopiedColumns carries place_of wire_of from row = Columns (wire_for carries wire_of) (λ p. get_or from (read_for carries place_of wire_of p) 0) row

-- ---- every so many rows: those below a row are written
-- two numbers of one remainder are the same or so far apart
apart : (n a row : ℕ) → a % n ≡ row % n → a < row + n → (a ≡ row → ⊥) → a < row
apart n a row e h other = go (dec_lt (row / n) (a / n))
  where
    go : Dec (row / n < a / n) → a < row
    go (yes d) = omega (arith, e, h, div-add-mod a n, div-add-mod row n, mul-le-mul_left n (let s : row / n + 1 ≤ a / n = omega (arith, d) in s))
    go (no d) = omega (arith, e, other, div-add-mod a n, div-add-mod row n, mul-le-mul_left n (let s : a / n ≤ row / n = omega (arith, d) in s))

pub record Rows (wire_of f : ℕ → ℕ) (n first : ℕ) (out₀ out : List ℕ) (row : ℕ) : Type 0 where
  pub stands : row % n ≡ first
  pub part : Part (λ p. (wire_of p / 10 % n ≡ first) × (wire_of p / 10 < row)) f out₀ out

pub rows_none : {wire_of f : ℕ → ℕ} {n first : ℕ} {out : List ℕ} → length out ≡ 260 → first < n → Rows wire_of f n first out out first
rows_none {wire_of} {n = n} {first = first} e h =
    record {
      stands = mod-eq_of_lt h;
      part = part_none e (λ p o. let m : wire_of p / 10 % n ≡ wire_of p / 10 = mod-eq_of_lt (let b : wire_of p / 10 < n = omega arith in b) in omega arith);
    }

module _ {wire_of f : ℕ → ℕ} {n first : ℕ} {out₀ out : List ℕ} {row : ℕ} (s : Rows wire_of f n first out₀ out row) where
  pub rows_more : 0 < n → {out' : List ℕ} → Part (λ p. wire_of p / 10 ≡ row) f out out' → Rows wire_of f n first out₀ out' (row + n)
  rows_more positive t =
      record {
        stands = add-mod_right row n ∙ s.stands;
        part = part_onto s.part t (λ p. ℕ_discrete (wire_of p / 10) row) (λ p o m. (o.0, apart n (wire_of p / 10) row (o.0 ∙ sym s.stands) o.1 m))
            (λ p o. (o.0, omega arith)) (λ p o. (ap (λ (r : ℕ). r % n) o ∙ s.stands, omega arith));
      }

  pub rows_done : 26 ≤ row → ((p : ℕ) → p < 260 → wire_of p < 260) → Part (λ p. wire_of p / 10 % n ≡ first) f out₀ out
  rows_done h low = part_same s.part (λ p b o. (o, omega (arith, low p b))) (λ p b o. o.0)

-- ---- the even rows of one list and the odd rows of another
module _ (wire_of at : ℕ → ℕ) (even odd : List ℕ) where
  by : (p : ℕ) {b : Bool} → eqb (wire_of p / 10 % 2) 0 ≡ b → get_or (cond b even odd) (at p) 0 ≡ get_or (by_row even odd (wire_of p / 10)) (at p) 0
  by p e = ap (λ (b : Bool). get_or (cond b even odd) (at p) 0) (sym e)

  even_row : (p : ℕ) → wire_of p / 10 % 2 ≡ 0 → get_or even (at p) 0 ≡ get_or (by_row even odd (wire_of p / 10)) (at p) 0
  even_row p e = by p (eq-eqb (wire_of p / 10 % 2) 0 e)

  odd_row : (p : ℕ) → wire_of p / 10 % 2 ≡ 1 → get_or odd (at p) 0 ≡ get_or (by_row even odd (wire_of p / 10)) (at p) 0
  odd_row p e = by p (ne_eqb (wire_of p / 10 % 2) 0 (λ z. omega arith))

  pub odd_rows_last : {out₀ out out' : List ℕ} → Part (λ p. wire_of p / 10 % 2 ≡ 0) (λ p. get_or even (at p) 0) out₀ out
      → Part (λ p. wire_of p / 10 % 2 ≡ 1) (λ p. get_or odd (at p) 0) out out' → out' ≡ listed 260 (λ p. get_or (by_row even odd (wire_of p / 10)) (at p) 0)
  odd_rows_last s t =
      part_listed t (λ p. ℕ_discrete (wire_of p / 10 % 2) 1) (λ p b o. odd_row p o) (λ p b n. s.right p b (omega arith) ∙ even_row p (omega arith))

  pub even_rows_last : {out₀ out out' : List ℕ} → Part (λ p. wire_of p / 10 % 2 ≡ 1) (λ p. get_or odd (at p) 0) out₀ out
      → Part (λ p. wire_of p / 10 % 2 ≡ 0) (λ p. get_or even (at p) 0) out out' → out' ≡ listed 260 (λ p. get_or (by_row even odd (wire_of p / 10)) (at p) 0)
  even_rows_last s t =
      part_listed t (λ p. ℕ_discrete (wire_of p / 10 % 2) 0) (λ p b o. even_row p o) (λ p b n. s.right p b (omega arith) ∙ odd_row p (omega arith))

-- ---- parts by their numbers: those below k are written
pub record Turns (part_of f : ℕ → ℕ) (out₀ out : List ℕ) (k : ℕ) : Type 0 where
  pub part : Part (λ p. part_of p < k) f out₀ out

pub turns_none : {part_of f : ℕ → ℕ} {out : List ℕ} → length out ≡ 260 → Turns part_of f out out 0
turns_none e = record { part = part_none e (λ p o. omega arith) }

module _ {part_of f : ℕ → ℕ} {out₀ out : List ℕ} {k : ℕ} (s : Turns part_of f out₀ out k) where
  pub turns_more : {g : ℕ → ℕ} {out' : List ℕ} → Part (λ p. part_of p ≡ k) g out out' → ((p : ℕ) → p < 260 → part_of p ≡ k → g p ≡ f p)
      → Turns part_of f out₀ out' (k + 1)
  turns_more t same =
      record {
        part = part_onto s.part (part_as t same) (λ p. ℕ_discrete (part_of p) k) (λ p o n. omega arith) (λ p o. omega arith) (λ p o. omega arith);
      }

  pub turns_done : ((p : ℕ) → p < 260 → part_of p < k) → out ≡ listed 260 f
  turns_done all = is_listed 260 f 0 out s.part.size (λ p b. s.part.right p b (all p b))
