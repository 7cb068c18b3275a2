-- A buffer of fixed size: what is put behind what it holds is appended. Assumes nothing.
use mathlib.Core.Path.{◌≡◌, sym, ap, ap₂, ◌∙◌}
use mathlib.Core.List.{List, ◌++◌}
use Prim.Native.Nat.{ℕ, ◌+◌, ◌-◌, ◌≤◌}
use native.Mathlib.Omega.{arith}
use lib.ListN.{length, take, drop, replicate, length-append}
use lib.Seq.{length-take-le, sets-eq, take-append_seam, drop-append_seam}
use Rattle.std.proofs.lemmas.List.{drop-drop, drop-replicate}
use Rattle.text.specs.Writing.{Held, Put}

-- what a buffer shows of its bytes is as long as it says
pub shown : {bytes seen : List ℕ} {len size : ℕ} → take len bytes ≡ seen → Held size len bytes → length seen ≡ len
shown {bytes} {seen} {len} e h = ap length (sym e) ∙ length-take-le len bytes (omega (arith, h.within, h.long))

module _ {size len next : ℕ} {bytes after vs : List ℕ} (h : Held size len bytes) (room : len + length vs ≤ size) (p : Put bytes len vs after next) where
  abbrev front : List ℕ
  front = take len bytes ++ vs

  front_length : length front ≡ next
  front_length =
      length-append (take len bytes) vs ∙ ap (λ (n : ℕ). n + length vs) (length-take-le len bytes (omega (arith, h.within, h.long))) ∙ sym p.past

  parts : after ≡ (take len bytes ++ vs) ++ drop (len + length vs) bytes
  parts =
      p.stored ∙ sets-eq vs bytes len (omega (arith, room, h.long))

  -- what a buffer then shows
  pub shown_more : {seen : List ℕ} → take len bytes ≡ seen → take next after ≡ seen ++ vs
  shown_more {seen} e =
      ap₂ take (sym front_length) parts ∙ take-append_seam front (drop (len + length vs) bytes) ∙ ap (λ (l : List ℕ). l ++ vs) e

  less : size - len - length vs ≡ size - next
  less = omega (arith, p.past)

  -- zeros still stand behind it
  pub held_more : Held size next after
  held_more =
      record {
        within = omega (arith, p.past);
        long = p.kept ∙ h.long;
        behind =
            ap₂ drop (sym front_length) parts ∙ drop-append_seam front (drop (len + length vs) bytes)
            ∙ sym (drop-drop (length vs) len bytes) ∙ ap (drop (length vs)) h.behind
            ∙ drop-replicate (length vs) (size - len) 0 ∙ ap (λ (n : ℕ). replicate n 0) less;
      }
