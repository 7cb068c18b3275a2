-- The speech order of bytes is that of their bits, and back. Assumes nothing.
use mathlib.Core.Path.{◌≡◌, sym, ap, ◌∙◌}
use mathlib.Core.Bool.{Bool, true, false, cond}
use mathlib.Core.List.{List}
use Prim.Native.Nat.{ℕ}
use native.Mathlib.Omega.{arith}
use lib.ListN.{length, get_or, drop}
use borrow.Author.Tests.{lt-ltb}
use Rattle.bits.specs.Places.{place_in, taken, put}
use Rattle.bits.specs.Bits.{bits, bytes, byte, all_binary}
use Rattle.bits.proofs.Binary.{bits-bytes, bytes_bits, bits-drop, binary_bytes, binary_drop}
use Rattle.bits.proofs.Listed.{map-taken, is_listed}
use Rattle.acelp_cc1.specs.Frames.{speech_order, ordered, unordered}
use Rattle.bits.proofs.PlacesMoved.{taken-map, put_at, put-length}
use Rattle.acelp_cc1.proofs.Placing.{speech_size, speech_place_below}

-- the bytes from a place on of bits
pub bytes_drop : (n : ℕ) (w : List Bool) → drop n (bytes w) ≡ bytes (drop n w)
bytes_drop n w =
    sym (bytes_bits (drop n (bytes w)) (binary_drop n (bytes w) (binary_bytes w))) ∙ ap bytes (bits-drop n (bytes w) ∙ ap (drop n) (bits-bytes w))

-- ---- the speech order
-- bits stay bits
pub ordered-bytes : (speech : List ℕ) → all_binary speech ≡ true → ordered 0 speech ≡ bytes (ordered false (bits speech))
unfolding ordered
ordered-bytes speech b = sym (taken-map false byte speech_order (bits speech) ∙ ap (taken 0 speech_order) (bytes_bits speech b))

-- put back, and no place is left as it was
pub put-unordered : (sorted speech : List ℕ) {places l : List ℕ} → length speech ≡ 148 → places ≡ speech_order → l ≡ put 0 places sorted speech → l ≡ unordered 0 sorted
unfolding unordered
put-unordered sorted speech room e f =
    f ∙ ap (λ (p : List ℕ). put 0 p sorted speech) e
    ∙ is_listed 148 _ 0 (put 0 speech_order sorted speech) (put-length 0 speech_order sorted speech ∙ room)
    (λ s h.
    put_at 0 speech_order sorted speech 148 s speech_size (omega arith)
    ∙ ap (λ (t : Bool). cond t (get_or sorted (place_in speech_order s) 0) (get_or speech s 0)) (lt-ltb _ _ (speech_place_below s h)))

pub unordered-bytes : (w : List Bool) → unordered 0 (bytes w) ≡ bytes (unordered false w)
unfolding unordered
unordered-bytes w = sym (map-taken 148 (place_in speech_order) false byte w)
