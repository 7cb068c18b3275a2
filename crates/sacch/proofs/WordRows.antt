-- The eleven rows of a word, from any memory: their bits are its coded bits, so that they decode to it. Assumes nothing.
use mathlib.Core.Path.{◌≡◌, refl, sym, ◌∙◌, ap, ap₂, subst}
use mathlib.Core.Bool.{Bool}
use mathlib.Core.List.{List, [], ◌∷◌, ◌++◌, reverse}
use Prim.Native.Nat.{ℕ, zero, suc, ◌+◌, ◌*◌, ◌^◌, ◌<◌}
use native.Mathlib.Omega.{arith}
use lib.Dec.{eqb, eqb→eq}
use lib.ListN.{length, take, drop, length-append, length-drop, length-reverse, take-append-drop}
use lib.Seq.{drop-drop, length-take-le, take-append-le, take_at, drop-append-add}
use Rattle.std.specs.Prelude.{Ok}
use Rattle.bits.specs.Bits.{bits, bytes}
use Rattle.bits.specs.Numbers.{packed, unpacked}
use Rattle.bits.specs.Places.{listed}
use Rattle.bits.proofs.Binary.{bits-bytes, bytes-append}
use Rattle.bits.proofs.Listed.{length-listed, listed_same}
use Rattle.bits.proofs.Packed.{unpacked-packed}
use Rattle.bits.proofs.Tested.{below}
use Rattle.coding.specs.Codes.{coded, dcch}
use Rattle.coding.specs.Laws.{dcch_laws}
use Rattle.coding.specs.Registers.{memory_high}
use Rattle.coding.specs.Runs.{Ran}
use Rattle.coding.proofs.Coded.{ran_none, ran_append}
use Rattle.sacch_encoder.specs.Words.{word_of, sixes_of, coded_row, memory_after}
use Rattle.sacch.proofs.RoundTrip.{word-length}
use Rattle.sacch_encoder.proofs.Rows.{row_length, memory_below, memory_holds}
use Rattle.sacch_decoder.specs.Decoding.{decode_of}
use Rattle.sacch_receiver.specs.Stored.{row_bits, decode_rows}
use Rattle.sacch_encoder.specs.declared.SacchEncoder.{SacchEncoder}
use Rattle.sacch.specs.Calls.{EncoderCall, Given, Words, no_words, sent, refused_call, called}
use Rattle.sacch.specs.Listening.{rows_from, sixes_for, sixes_for_all, word_sent}
use Rattle.sacch.proofs.Fitting.{FittingEncoder}
use Rattle.sacch.proofs.EncoderRun.{memory_from, word-taken, memory_after-word, word_fits, refused_leaves}
use Rattle.sacch.proofs.RoundTrip.{sacch_round_trip}

-- ---- a word and its sixes
-- the bits of sixes one after the other
unfoldable pub six_bits : List ℕ → List Bool
six_bits [] = []
six_bits (six ∷ sixes) = unpacked 6 six ++ six_bits sixes

sixes_again : (n : ℕ) (w : List Bool) → length w ≡ 6 * n → six_bits (listed n (λ (i : ℕ). packed (take 6 (drop (6 * i) w)))) ≡ w
unfolding six_bits listed
sixes_again zero [] h = refl
sixes_again zero (b ∷ w) h = absurd (omega arith)
sixes_again (suc n) w h =
    let rest : length (drop 6 w) ≡ 6 * n = length-drop 6 w ∙ omega arith in
    let six : length (take 6 w) ≡ 6 = length-take-le 6 w (omega arith) in
    ap₂ ◌++◌ (ap (λ (k : ℕ). unpacked k (packed (take 6 w))) (sym six) ∙ unpacked-packed (take 6 w))
    (ap six_bits
    (listed_same n _ (λ i. packed (take 6 (drop (6 * i) (drop 6 w))))
    (λ i. let e : 6 * suc i ≡ 6 + 6 * i = omega arith in
    ap (λ (l : List Bool). packed (take 6 l)) (ap (λ (k : ℕ). drop k w) e ∙ sym (drop-drop (6 * i) 6 w))))
    ∙ sixes_again n (drop 6 w) rest)
    ∙ take-append-drop 6 w

pub word_again : (c : Bool) (m d : ℕ) → six_bits (sixes_of (word_of c m d)) ≡ word_of c m d
unfolding sixes_of
word_again c m d = sixes_again 11 (word_of c m d) (word-length c m d)

pub sixes_length : (dvcc : ℕ) (g : Given) → length (sixes_for dvcc g) ≡ 11
unfolding sixes_of
sixes_length dvcc g = length-listed 11 _

-- ---- rows
-- the bits of a row are the coded bits of its six inputs
row_ran : (s six : ℕ) → Ran dcch memory_high s (unpacked 6 six) (memory_after s six) (bytes (unpacked 12 (coded_row s six)))
unfolding coded_row
row_ran s six =
    let row : List Bool = coded dcch (memory_high s) (unpacked 6 six) in
    record {
      bits = ap bytes (ap (λ (k : ℕ). unpacked k (packed row)) (sym (row_length (memory_high s) six)) ∙ unpacked-packed row);
      below = memory_below s six;
      holds = memory_holds s six;
    }

pub rows_ran : (sixes : List ℕ) (s : ℕ) → s < 32 → Ran dcch memory_high s (six_bits sixes) (memory_from s sixes) (bytes (row_bits (rows_from s sixes)))
unfolding six_bits rows_from memory_from row_bits
rows_ran [] s h = ran_none h refl
rows_ran (six ∷ sixes) s h =
    subst (Ran dcch memory_high s (six_bits (six ∷ sixes)) (memory_from (memory_after s six) sixes))
    (sym (bytes-append (unpacked 12 (coded_row s six)) (row_bits (rows_from (memory_after s six) sixes))))
    (ran_append dcch_laws.six (row_ran s six) (rows_ran sixes (memory_after s six) (memory_below s six)))

pub memory_from_below : (sixes : List ℕ) (s : ℕ) → s < 32 → memory_from s sixes < 32
memory_from_below sixes s h = (rows_ran sixes s h).below

-- a memory is the number of what it holds
memory_again : (s : ℕ) → s < 32 → packed (memory_high s) ≡ s
unfolding packed
memory_again s h = eqb→eq _ _ (below (λ k. eqb (packed (memory_high k)) k) 32 tt s h)

-- ---- the window of a word
module _ (s dvcc : ℕ) (g : Given) (h : s < 32) where
  abbrev word : List Bool
  word = word_of g.continuation g.message dvcc

  word_ran : Ran dcch memory_high s word (memory_from s (sixes_for dvcc g)) (bytes (row_bits (rows_from s (sixes_for dvcc g))))
  word_ran =
      subst (λ (w : List Bool). Ran dcch memory_high s w (memory_from s (sixes_for dvcc g)) (bytes (row_bits (rows_from s (sixes_for dvcc g)))))
      (word_again g.continuation g.message dvcc) (rows_ran (sixes_for dvcc g) s h)

  window_bits : row_bits (rows_from s (sixes_for dvcc g)) ≡ coded dcch (memory_high s) word
  window_bits = sym (bits-bytes _) ∙ ap bits word_ran.bits ∙ bits-bytes _

  window_ending : packed (take 5 (reverse word)) ≡ memory_from s (sixes_for dvcc g)
  window_ending =
      let l : length word ≡ 66 = word-length g.continuation g.message dvcc in
      let r : length (reverse word) ≡ length word = length-reverse word in
      ap packed (sym (word_ran.holds ∙ take-append-le 5 (reverse word) (memory_high s) (omega arith))) ∙ memory_again _ word_ran.below

  pub window_decodes : g.message < 2 ^ 48
      → decode_rows (rows_from s (sixes_for dvcc g)) dvcc
      ≡ Ok (record { continuation = g.continuation; message = g.message; corrected = 0; ending = memory_from s (sixes_for dvcc g) })
  unfolding decode_rows
  window_decodes m =
      ap (λ (b : List Bool). decode_of b dvcc) window_bits ∙ sacch_round_trip g.continuation g.message dvcc s h m
      ∙ ap (λ (n : ℕ). Ok (record { continuation = g.continuation; message = g.message; corrected = 0; ending = n })) window_ending

-- ---- words one after the other
rows_append : (sixes others : List ℕ) (s : ℕ) → rows_from s (sixes ++ others) ≡ rows_from s sixes ++ rows_from (memory_from s sixes) others
unfolding rows_from memory_from
rows_append [] others s = refl
rows_append (six ∷ sixes) others s = ap (◌∷◌ (coded_row s six)) (rows_append sixes others (memory_after s six))

pub rows_length : (sixes : List ℕ) (s : ℕ) → length (rows_from s sixes) ≡ length sixes
unfolding rows_from
rows_length [] s = refl
rows_length (six ∷ sixes) s = ap suc (rows_length sixes (memory_after s six))

pub all_length : (dvcc : ℕ) (given : List Given) → length (sixes_for_all dvcc given) ≡ 11 * length given
unfolding sixes_for_all
all_length dvcc [] = omega arith
all_length dvcc (g ∷ given) =
    let rest : length (sixes_for_all dvcc given) ≡ 11 * length given = all_length dvcc given in
    let here : length (sixes_for dvcc g) ≡ 11 = sixes_length dvcc g in
    length-append (sixes_for dvcc g) (sixes_for_all dvcc given) ∙ omega arith

-- the first word's rows, and those after them
module _ (dvcc s : ℕ) (g : Given) (given : List Given) where
  abbrev first : List ℕ
  first = rows_from s (sixes_for dvcc g)

  abbrev others : List ℕ
  others = rows_from (memory_from s (sixes_for dvcc g)) (sixes_for_all dvcc given)

  both : rows_from s (sixes_for_all dvcc (g ∷ given)) ≡ first ++ others
  unfolding sixes_for_all
  both = rows_append (sixes_for dvcc g) (sixes_for_all dvcc given) s

  eleven : length first ≡ 11
  eleven = rows_length (sixes_for dvcc g) s ∙ sixes_length dvcc g

  first_rows : take 11 (drop (11 * 0) (rows_from s (sixes_for_all dvcc (g ∷ given)))) ≡ first
  first_rows = ap (take 11) both ∙ take_at first others 11 eleven

  later_rows : (k : ℕ) → take 11 (drop (11 * suc k) (rows_from s (sixes_for_all dvcc (g ∷ given)))) ≡ take 11 (drop (11 * k) others)
  later_rows k =
      let e : 11 * suc k ≡ length first + 11 * k = let l : length first ≡ 11 = eleven in omega arith in
      ap₂ (λ (n : ℕ) (l : List ℕ). take 11 (drop n l)) e both ∙ ap (take 11) (drop-append-add first others (11 * k))

-- the k-th eleven rows decode to the k-th word
pub word_rows : (dvcc : ℕ) {e : SacchEncoder} {calls : List EncoderCall} {given : List Given} → Words dvcc e calls given → FittingEncoder e → (k : ℕ) → k < length given
    → decode_rows (take 11 (drop (11 * k) (rows_from e.memory (sixes_for_all dvcc given)))) dvcc ≡ Ok (word_sent dvcc e given k)
unfolding word_sent
word_rows dvcc no_words f k hk = absurd (omega arith)
word_rows dvcc (sent {e} {given = given} g n words) f zero hk =
    let h : g.message < 2 ^ 48 = word-taken dvcc g f n in
    ap (λ (l : List ℕ). decode_rows l dvcc) (first_rows dvcc e.memory g given) ∙ window_decodes e.memory dvcc g f.fit.memory h
    ∙ ap (λ (s : ℕ). Ok (record { continuation = g.continuation; message = g.message; corrected = 0; ending = s })) (sym (memory_after-word dvcc g f h))
word_rows dvcc (sent {e} {given = given} g n words) f (suc k) hk =
    let h : g.message < 2 ^ 48 = word-taken dvcc g f n in
    ap (λ (l : List ℕ). decode_rows l dvcc) (later_rows dvcc e.memory g given k)
    ∙ ap (λ (s : ℕ). decode_rows (take 11 (drop (11 * k) (rows_from s (sixes_for_all dvcc given)))) dvcc) (sym (memory_after-word dvcc g f h))
    ∙ word_rows dvcc words (word_fits dvcc g f h) k (omega arith)
word_rows dvcc (refused_call {e} {given = given} call r words) f k hk =
    let left : (called e call).encoder ≡ e = refused_leaves e call r in
    ap (λ (d : SacchEncoder). decode_rows (take 11 (drop (11 * k) (rows_from d.memory (sixes_for_all dvcc given)))) dvcc) (sym left)
    ∙ word_rows dvcc words (subst FittingEncoder (sym left) f) k hk ∙ ap (λ (d : SacchEncoder). Ok (word_sent dvcc d given k)) left
