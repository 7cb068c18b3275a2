-- Bytes stored into a buffer one run after the other. Assumes nothing.
use mathlib.Core.Path.{◌≡◌, refl, sym, ap, ◌∙◌}
use mathlib.Core.List.{List, [], ◌∷◌, ◌++◌, append-nil, append_assoc}
use Prim.Native.Nat.{ℕ, suc, ◌+◌, ◌≤◌}
use native.Mathlib.Nat.{add-suc, suc-add, add-zero}
use native.Mathlib.Omega.{arith}
use lib.ListN.{length, take, drop, set, length-append, drop_of_length-le}
use lib.Seq.{sets, sets-eq, length-sets}
use borrow.Rule.Slice.PartMut.{put_mid}
use Rattle.std.proofs.lemmas.List.Edits.{paste_all}
use Rattle.std.proofs.lemmas.Slice.{put_mid-paste}
use Rattle.text.specs.Writing.{Put}

sets_append : (vs ws l : List ℕ) (i : ℕ) → sets (sets l i vs) (i + length vs) ws ≡ sets l i (vs ++ ws)
sets_append [] ws l i = ap (λ (k : ℕ). sets l k ws) (add-zero i)
sets_append (v ∷ vs) ws l i =
    ap (λ (k : ℕ). sets (sets (set l i v) (suc i) vs) k ws) (add-suc i (length vs) ∙ sym (suc-add i (length vs)))
    ∙ sets_append vs ws (set l i v) (suc i)

pub put_nothing : (l : List ℕ) (i : ℕ) → Put l i [] l i
put_nothing l i = record { stored = refl; kept = refl; past = sym (add-zero i) }

-- two runs
pub put_then : {l m n vs ws : List ℕ} {i j k : ℕ} → Put l i vs m j → Put m j ws n k → Put l i (vs ++ ws) n k
put_then {l} {m} {n} {vs} {ws} {i} {j} {k} p q =
    record {
      stored =
          q.stored ∙ ap (λ (x : List ℕ). sets x j ws) p.stored ∙ ap (λ (x : ℕ). sets (sets l i vs) x ws) p.past
          ∙ sets_append vs ws l i;
      kept = q.kept ∙ p.kept;
      past = omega (arith, p.past, q.past, length-append vs ws);
    }

-- a text that is copied into a part of the buffer, as long as it
pub put_part : (l vs : List ℕ) (i k : ℕ) {part : List ℕ} → i + length vs ≤ length l → length vs ≡ k → part ≡ vs → Put l i vs (put_mid i k l part) (i + length vs)
put_part l vs i k {part} room e same =
    let whole : put_mid i k l part ≡ sets l i vs =
    put_mid-paste i k l part vs (length vs) same e refl ∙ paste_all l i vs (length vs) refl
    ∙ sym (append_assoc (take i l) vs (drop (i + length vs) l)) ∙ sym (sets-eq vs l i room) in
    record { stored = whole; kept = ap length whole ∙ length-sets l i vs; past = refl }

-- a run that fills the buffer
pub put_whole : {l m vs : List ℕ} {r : ℕ} → length vs ≡ length l → Put l 0 vs m r → m ≡ vs
put_whole {l} {m} {vs} e p =
    let h : length l ≤ 0 + length vs = omega arith in
    p.stored ∙ sets-eq vs l 0 (omega arith) ∙ ap (λ (r : List ℕ). vs ++ r) (drop_of_length-le l h) ∙ append-nil vs
