-- `decode` of `encode` is the message, corrected 0: the word of the coded bits weighs nothing, and no other word has them.
-- In general, where one word agrees with what was observed, that word is decoded. Assumes nothing.
use mathlib.Core.Path.{◌≡◌, refl, sym, ap, ap₂, ◌∙◌}
use mathlib.Core.Bool.{Bool, true, false, cond}
use mathlib.Core.List.{List, [], ◌∷◌, ◌++◌, reverse}
use Prim.Native.Nat.{ℕ, ◌+◌, ◌^◌, ◌≤◌, ◌<◌}
use native.Mathlib.Omega.{arith}
use lib.ListN.{length, take, drop, length-append, length-drop, length-map, replicate}
use lib.Seq.{length-take-le}
use Rattle.bits.specs.Bits.{byte, bytes, disagreement, tally, disagreements}
use Rattle.bits.specs.Numbers.{packed, unpacked}
use Rattle.std.specs.Prelude.{Ok, Err}
use Rattle.bits.specs.Arguments.{first_refusal, Arguments}
use Rattle.bits.specs.declared.Refusal.TheVariants as refusal
use Rattle.bits.proofs.Binary.{binary_bytes}
use Rattle.bits.proofs.Tally.{disagreements_self, disagreements_none}
use Rattle.coding.specs.Codes.{tapped, coded, facch}
use Rattle.checksums.specs.Checksums.{checksum_of, divided, added}
use Rattle.coding.proofs.Coded.{coded-length}
use Rattle.trellis.specs.Search.{Nearest, Ambiguous}
use Rattle.trellis.specs.Words.{OfLength}
use Rattle.trellis.proofs.Decided.{decided_alone}
use Rattle.bits.specs.Observed.{erased_differ, observed_one, observed_count}
use Rattle.words.specs.Words.{made_of, word_valid}
use Rattle.words.proofs.Made.{made_length, made_valid, made_message}
use Rattle.facch.specs.Words.{word_of, tail_biting, Encoding}
use Rattle.facch.specs.Decoding.{content_of, finished, decoding, erased_arguments, decode_arguments}
use Rattle.facch.specs.Search.{weight}
use Rattle.facch.proofs.Meaning.{facch-decided}
use Rattle.bits.proofs.Refusing.{exact_passed, binary_passed, below_passed, erasable_passed}
use Rattle.bits.proofs.Erased.{binary_erasable}
use Rattle.facch_laws.proofs.Determined.{whole_determines}

-- ---- a word that agrees with what was observed, where no other does
module _ (received : List ℕ) (w : List Bool) (size : length w ≡ 65) (agrees : weight received w ≡ 0)
    (only : (u : List Bool) → length u ≡ 65 → weight received u ≡ 0 → u ≡ w) where
  nearest_is : (u : List Bool) → Nearest (OfLength 65) (weight received) u → u ≡ w
  nearest_is u n = only u n.word (omega (arith, n.least w size))

  clear : Ambiguous (OfLength 65) (weight received) → ⊥
  clear a = a.distinct (nearest_is a.one a.one_nearest ∙ sym (nearest_is a.other a.other_nearest))

  pub agreed : (arguments : Arguments) (dvcc : ℕ) → arguments ≡ Ok tt → 65 ≤ observed_count received → word_valid 1 w dvcc ≡ true
      → decoding arguments received dvcc ≡ Ok (content_of w 0 (observed_count received))
  unfolding finished
  agreed arguments dvcc passed many right =
      ap (λ (l : Arguments). decoding l received dvcc) passed
      ∙ decided_alone (facch-decided received dvcc many) (record { word = size; least = λ u h. omega (arith, agrees) }) clear
      ∙ ap₂ (λ (b : Bool) (n : ℕ). cond b (Ok (content_of w n (observed_count received))) (Err refusal.Crc)) right agrees

-- ---- bits that are all observed
pub erased_byte : (a b : Bool) → erased_differ a (byte b) ≡ disagreement a b
unfolding erased_differ
erased_byte false false = refl
erased_byte false true = refl
erased_byte true false = refl
erased_byte true true = refl

tally-bytes : (u w : List Bool) → tally erased_differ u (bytes w) ≡ disagreements u w
unfolding tally
tally-bytes [] w = refl
tally-bytes (a ∷ u) [] = refl
tally-bytes (a ∷ u) (b ∷ w) = ap₂ (λ (m n : ℕ). m + n) (erased_byte a b) (tally-bytes u w)

all_observed : (w : List Bool) → observed_count (bytes w) ≡ length w
unfolding observed_count observed_one
all_observed [] = refl
all_observed (false ∷ w) = let i : observed_count (bytes w) ≡ length w = all_observed w in omega arith
all_observed (true ∷ w) = let i : observed_count (bytes w) ≡ length w = all_observed w in omega arith

-- ---- a word of 65 bits
module _ (w : List Bool) (size : length w ≡ 65) where
  pub biting_length : length (tail_biting w) ≡ 260
  unfolding tail_biting
  biting_length =
      coded-length facch (reverse (take 5 w)) (drop 5 w ++ take 5 w)
      ∙ omega (arith, length-append (drop 5 w) (take 5 w), length-drop 5 w, length-take-le 5 w (omega arith))

  own_weight : weight (bytes (tail_biting w)) w ≡ 0
  unfolding weight
  own_weight = tally-bytes (tail_biting w) (tail_biting w) ∙ disagreements_self (tail_biting w)

coded_size : (w : List Bool) → length w ≡ 65 → length (bytes (tail_biting w)) ≡ 260
coded_size w size = length-map (tail_biting w) byte ∙ biting_length w size

only_own : (w u : List Bool) → length w ≡ 65 → length u ≡ 65 → weight (bytes (tail_biting w)) u ≡ 0 → u ≡ w
unfolding weight
only_own w u hw hu e =
    whole_determines u w hu hw
    (disagreements_none (tail_biting u) (tail_biting w) (biting_length u hu ∙ sym (biting_length w hw)) (sym (tally-bytes (tail_biting u) (tail_biting w)) ∙ e))

pub passed_decode : (w : List Bool) → length w ≡ 65 → decode_arguments (bytes (tail_biting w)) ≡ Ok tt
passed_decode w h = ap₂ first_refusal (exact_passed 260 (length (bytes (tail_biting w))) (coded_size w h)) (binary_passed (bytes (tail_biting w)) (binary_bytes (tail_biting w)))

pub passed_erased : (w : List Bool) → length w ≡ 65 → erased_arguments (bytes (tail_biting w)) ≡ Ok tt
passed_erased w h = erasable_passed 260 (bytes (tail_biting w)) (coded_size w h) (binary_erasable (bytes (tail_biting w)) (binary_bytes (tail_biting w)))

-- ---- the word of a message
module _ (continuation : Bool) (message dvcc : ℕ) where
  pub word-length : length (word_of continuation message dvcc) ≡ 65
  word-length = made_length (continuation ∷ []) message dvcc

  pub valid_own : word_valid 1 (word_of continuation message dvcc) dvcc ≡ true
  valid_own = made_valid (continuation ∷ []) message dvcc 1 refl

  pub content_own : (observed : ℕ) → message < 2 ^ 48
      → content_of (word_of continuation message dvcc) 0 observed ≡ record { continuation = continuation; message = message; corrected = 0; observed = observed }
  unfolding content_of made_of
  content_own observed h = ap (λ (n : ℕ). record { continuation = continuation; message = n; corrected = 0; observed = observed }) (made_message (continuation ∷ []) message dvcc refl h)

  -- a word's own coded bits, taken by either call
  own_bits : (arguments : Arguments) → arguments ≡ Ok tt → message < 2 ^ 48
      → decoding arguments (bytes (tail_biting (word_of continuation message dvcc))) dvcc ≡ Ok (record { continuation = continuation; message = message; corrected = 0; observed = 260 })
  own_bits arguments passed h =
      let w : List Bool = word_of continuation message dvcc in
      let size : length w ≡ 65 = word-length in
      let n : observed_count (bytes (tail_biting w)) ≡ 260 = all_observed (tail_biting w) ∙ biting_length w size in
      agreed (bytes (tail_biting w)) w size (own_weight w size) (λ u hu e. only_own w u size hu e) arguments dvcc passed (omega (arith, n)) valid_own
      ∙ ap Ok (ap (λ (k : ℕ). content_of w 0 k) n ∙ content_own 260 h)

  module _ (h : message < 2 ^ 48) {coded₀ coded : List ℕ} (r : Arguments) (room : length coded₀ ≡ 260) (e : Encoding continuation message dvcc coded₀ coded r) where
    pub written : coded ≡ bytes (tail_biting (word_of continuation message dvcc))
    written = (e.done (ap₂ first_refusal (exact_passed 260 (length coded₀) room) (below_passed (2 ^ 48) message h))).1

    -- what `encode` writes, `decode` reads
    pub facch_round_trip : decoding (decode_arguments coded) coded dvcc ≡ Ok (record { continuation = continuation; message = message; corrected = 0; observed = 260 })
    facch_round_trip =
        let w : List Bool = word_of continuation message dvcc in
        ap (λ (l : List ℕ). decoding (decode_arguments l) l dvcc) written ∙ own_bits (decode_arguments (bytes (tail_biting w))) (passed_decode w word-length) h

    -- and so does `decode_erased`
    pub facch_round_trip_erased : decoding (erased_arguments coded) coded dvcc ≡ Ok (record { continuation = continuation; message = message; corrected = 0; observed = 260 })
    facch_round_trip_erased =
        let w : List Bool = word_of continuation message dvcc in
        ap (λ (l : List ℕ). decoding (erased_arguments l) l dvcc) written ∙ own_bits (erased_arguments (bytes (tail_biting w))) (passed_erased w word-length) h

-- ---- document 01: 260 zeros under the colour code 0 are a zero message
zeros : bytes (tail_biting (word_of false 0 0)) ≡ replicate 260 0
unfolding tail_biting coded tapped made_of checksum_of divided added packed unpacked
zeros = refl

pub zero_message : decoding (decode_arguments (replicate 260 0)) (replicate 260 0) 0 ≡ Ok (record { continuation = false; message = 0; corrected = 0; observed = 260 })
zero_message =
    ap (λ (l : List ℕ). decoding (decode_arguments l) l 0) (sym zeros)
    ∙ own_bits false 0 0 (decode_arguments (bytes (tail_biting (word_of false 0 0)))) (passed_decode (word_of false 0 0) (word-length false 0 0)) (omega arith)
