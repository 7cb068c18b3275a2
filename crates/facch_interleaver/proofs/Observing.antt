-- One half of a word is written over bytes 2. Assumes nothing.
use Rattle.std.proofs.Common.{◌≡◌, ℕ, ◌/◌, ◌%◌, List, length, get_or, replicate, refl, sym, ap, ◌∙◌}
use lib.ListN.{get_or-replicate, length-replicate}
use Rattle.interleaving.specs.Parts.{Part}
use Rattle.interleaving.specs.Slots.{collected}
use Rattle.interleaving.proofs.Parts.{even_rows_last, odd_rows_last}
use Rattle.facch_interleaver.specs.declared.WordHalf.{WordHalf}
use Rattle.facch_interleaver.specs.declared.WordHalf.TheVariants.{Start, End}
use Rattle.facch_interleaver.specs.Wire.{wire_of, deinterleaved, observed, parity_of}
use Rattle.facch_interleaver.specs.Laws.{order_laws}

-- bytes 2, as a half that a slot of bytes 2 carries
twos : {coded : List ℕ} (parity : ℕ) → coded ≡ replicate 260 2
    → Part (λ place. wire_of place / 10 % 2 ≡ parity) (λ place. get_or {A = ℕ} (replicate 260 2) (wire_of place) 0) coded coded
twos {coded} parity e =
    record {
      size = ap length e ∙ length-replicate {A = ℕ} 260 2;
      right = λ p b o. ap (λ (l : List ℕ). get_or l p 0) e ∙ get_or-replicate {A = ℕ} 260 p 2 0 b ∙ sym (get_or-replicate {A = ℕ} 260 (wire_of p) 2 0 (order_laws.wire_below p b));
      kept = λ p b n. refl;
    }

pub one_half : (half : WordHalf) (slot : List ℕ) {parity : ℕ} {coded coded' : List ℕ} → parity ≡ parity_of half → coded ≡ replicate 260 2
    → Part (λ place. wire_of place / 10 % 2 ≡ parity) (λ place. get_or slot (wire_of place) 0) coded coded' → coded' ≡ observed half slot
unfolding deinterleaved collected
one_half Start slot p e s = odd_rows_last wire_of wire_of (replicate 260 2) slot (twos 0 e) (rw p at s)
one_half End slot p e s = even_rows_last wire_of wire_of slot (replicate 260 2) (twos 1 e) (rw p at s)
