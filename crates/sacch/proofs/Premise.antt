-- Rows heard as they were sent decode to what their bits are, whether they begin a word or not, so that the rule's premise is a test of the bits given; and
-- four words that pass it. Assumes nothing.
use mathlib.Core.Path.{◌≡◌, refl, sym, ◌∙◌, ap, ap₂, subst}
use mathlib.Core.Bool.{Bool, true, false, cond, not, ◌&&◌, false≢true}
use mathlib.Core.List.{List, [], ◌∷◌, ◌++◌, append_assoc}
use Prim.Native.Nat.{ℕ, zero, suc, ◌+◌, ◌-◌, ◌*◌, ◌%◌, ◌≤◌, ◌<◌}
use native.Mathlib.Omega.{arith}
use borrow.Author.Tests.{ne_eqb}
use lib.Dec.{eqb, T}
use lib.ListN.{get_or, length, take, drop, replicate, length-append, length-drop}
use lib.Seq.{length-take-le, take-nil, drop-nil, take-append-add, drop-append-add}
use Rattle.std.specs.Prelude.{Ok}
use Rattle.bits.specs.Bits.{all_below, bits}
use Rattle.bits.specs.Numbers.{packed, unpacked}
use Rattle.bits.proofs.Below.{below_none, below_cons, below_take}
use Rattle.bits.proofs.Binary.{bits-bytes}
use Rattle.bits.proofs.Packed.{unpacked-length}
use Rattle.bits.proofs.Tested.{below}
use Rattle.checksums.specs.Checksums.{added, checksum_of, carries, divided}
use Rattle.words.specs.Words.{made_of, word_valid}
use Rattle.sacch_interleaver.specs.Diagonal.{all_twelve}
use Rattle.sacch_interleaver.proofs.Diagonal.{field_fits}
use Rattle.sacch_encoder.specs.Words.{coded_row, memory_after}
use Rattle.sacch_encoder.specs.Encoder.{encoded, encoder_fits, field_now, fields_from}
use Rattle.sacch_encoder.specs.declared.SacchEncoder.{SacchEncoder}
use Rattle.sacch_encoder.proofs.Fits.{fit_of}
use Rattle.sacch_decoder.specs.Decoding.{decode_of, finished}
use Rattle.sacch_decoder.specs.declared.SacchWord.{SacchWord}
use Rattle.sacch_decoder.proofs.Meaning.{finished-taken, taken-finished}
use Rattle.sacch_decoder.proofs.Weighing.{as_sent}
use Rattle.sacch_receiver.specs.Receiver.{receiver_fits}
use Rattle.sacch_receiver.specs.Stored.{decode_rows, row_bits}
use Rattle.sacch_receiver.specs.declared.SacchReceiver.{SacchReceiver}
use Rattle.sacch_receiver.proofs.Fitting as receiving
use Rattle.sacch.specs.Calls.{Given, Words, fields_sent}
use Rattle.sacch.specs.Listening.{rows_from, sixes_for, sixes_for_all, heard_rows, NoFalseWord, Promised}
use Rattle.sacch.specs.Premise.{bits_sent, heard_bits, is_word, NoWordHeard}
use Rattle.sacch.proofs.Fitting.{FittingEncoder, Fitting}
use Rattle.sacch.proofs.Pushes.{field_pushes, fields_pushed}
use Rattle.sacch.proofs.EncoderRun.{memory_from, word_calls, words_sent, fields_sent_lem, fields_length}
use Rattle.sacch.proofs.WordRows.{six_bits, word_again, rows_ran, memory_from_below, all_length}
use Rattle.sacch.proofs.Listening.{listening}

-- ---- the bits of sixes
six_bits-append : (sixes others : List ℕ) → six_bits (sixes ++ others) ≡ six_bits sixes ++ six_bits others
unfolding six_bits
six_bits-append [] others = refl
six_bits-append (six ∷ sixes) others =
    ap (λ (w : List Bool). unpacked 6 six ++ w) (six_bits-append sixes others) ∙ sym (append_assoc (unpacked 6 six) (six_bits sixes) (six_bits others))

sent_bits : (dvcc : ℕ) (given : List Given) → six_bits (sixes_for_all dvcc given) ≡ bits_sent dvcc given
unfolding sixes_for_all bits_sent six_bits
sent_bits dvcc [] = refl
sent_bits dvcc (g ∷ given) = six_bits-append (sixes_for dvcc g) (sixes_for_all dvcc given) ∙ ap₂ ◌++◌ (word_again g.continuation g.message dvcc) (sent_bits dvcc given)

-- six bits a six
more : (k six : ℕ) → 6 * suc k ≡ length (unpacked 6 six) + 6 * k
more k six = let l : length (unpacked 6 six) ≡ 6 = unpacked-length 6 six in omega arith

six_bits-drop : (k : ℕ) (sixes : List ℕ) → six_bits (drop k sixes) ≡ drop (6 * k) (six_bits sixes)
unfolding six_bits
six_bits-drop zero sixes = refl
six_bits-drop (suc k) [] = sym (drop-nil (6 * suc k))
six_bits-drop (suc k) (six ∷ sixes) =
    six_bits-drop k sixes ∙ sym (drop-append-add (unpacked 6 six) (six_bits sixes) (6 * k))
    ∙ ap (λ (n : ℕ). drop n (unpacked 6 six ++ six_bits sixes)) (sym (more k six))

six_bits-take : (k : ℕ) (sixes : List ℕ) → six_bits (take k sixes) ≡ take (6 * k) (six_bits sixes)
unfolding six_bits
six_bits-take zero sixes = refl
six_bits-take (suc k) [] = sym (take-nil (6 * suc k))
six_bits-take (suc k) (six ∷ sixes) =
    ap (λ (w : List Bool). unpacked 6 six ++ w) (six_bits-take k sixes) ∙ sym (take-append-add (unpacked 6 six) (six_bits sixes) (6 * k))
    ∙ ap (λ (n : ℕ). take n (unpacked 6 six ++ six_bits sixes)) (sym (more k six))

six_bits-length : (sixes : List ℕ) → length (six_bits sixes) ≡ 6 * length sixes
unfolding six_bits
six_bits-length [] = omega arith
six_bits-length (six ∷ sixes) =
    let rest : length (six_bits sixes) ≡ 6 * length sixes = six_bits-length sixes in
    let first : length (unpacked 6 six) ≡ 6 = unpacked-length 6 six in
    length-append (unpacked 6 six) (six_bits sixes) ∙ omega arith

-- ---- rows of a part of the sixes
rows_drop : (k : ℕ) (sixes : List ℕ) (s : ℕ) → drop k (rows_from s sixes) ≡ rows_from (memory_from s (take k sixes)) (drop k sixes)
unfolding rows_from memory_from
rows_drop zero sixes s = refl
rows_drop (suc k) [] s = refl
rows_drop (suc k) (six ∷ sixes) s = rows_drop k sixes (memory_after s six)

rows_take : (k : ℕ) (sixes : List ℕ) (s : ℕ) → take k (rows_from s sixes) ≡ rows_from s (take k sixes)
unfolding rows_from
rows_take zero sixes s = refl
rows_take (suc k) [] s = refl
rows_take (suc k) (six ∷ sixes) s = ap (◌∷◌ (coded_row s six)) (rows_take k sixes (memory_after s six))

-- ---- rows m to m + 10, wherever words begin
module _ (dvcc : ℕ) (e : SacchEncoder) (given : List Given) (m : ℕ) (small : e.memory < 32) (one : 1 ≤ m) (reach : m + 10 ≤ 11 * length given) where
  abbrev sixes : List ℕ
  sixes = sixes_for_all dvcc given

  abbrev part : List ℕ
  part = take 11 (drop (m - 1) sixes)

  part_bits : six_bits part ≡ heard_bits dvcc given m
  part_bits = six_bits-take 11 (drop (m - 1) sixes) ∙ ap (take 66) (six_bits-drop (m - 1) sixes ∙ ap (drop (6 * (m - 1))) (sent_bits dvcc given))

  heard_length : length (heard_bits dvcc given m) ≡ 66
  heard_length =
      let all : length (bits_sent dvcc given) ≡ 6 * length sixes = ap length (sym (sent_bits dvcc given)) ∙ six_bits-length sixes in
      let size : length sixes ≡ 11 * length given = all_length dvcc given in
      let left : length (drop (6 * (m - 1)) (bits_sent dvcc given)) ≡ length (bits_sent dvcc given) - 6 * (m - 1) = length-drop (6 * (m - 1)) (bits_sent dvcc given) in
      length-take-le 66 (drop (6 * (m - 1)) (bits_sent dvcc given)) (omega arith)

  pub heard_decodes : decode_rows (heard_rows dvcc e given m) dvcc ≡ finished (heard_bits dvcc given m) 0 dvcc
  unfolding decode_rows
  heard_decodes =
      let s : ℕ = memory_from e.memory (take (m - 1) sixes) in
      let s-small : s < 32 = memory_from_below (take (m - 1) sixes) e.memory small in
      let ran = rows_ran part s s-small in
      ap (λ (l : List ℕ). decode_of (row_bits (take 11 l)) dvcc) (rows_drop (m - 1) sixes e.memory)
      ∙ ap (λ (l : List ℕ). decode_of (row_bits l) dvcc) (rows_take 11 (drop (m - 1) sixes) s)
      ∙ ap (λ (b : List Bool). decode_of b dvcc) (sym (bits-bytes _) ∙ ap bits ran.bits ∙ bits-bytes _)
      ∙ as_sent s s-small (six_bits part) (ap length part_bits ∙ heard_length) dvcc ∙ ap (λ (w : List Bool). finished w 0 dvcc) part_bits

-- ---- the premise
module _ (w : List Bool) (dvcc : ℕ) where
  accepted_word : {x : SacchWord} → finished w 0 dvcc ≡ Ok x → is_word w dvcc ≡ true
  accepted_word e = let t = finished-taken w 0 dvcc e in rw (t.reserved, t.right)

  other_word : ((x : SacchWord) → finished w 0 dvcc ≡ Ok x → ⊥) → is_word w dvcc ≡ false
  other_word none = by (get_or w 1 false) refl (word_valid 2 w dvcc) refl
    where
      by : (reserved : Bool) → get_or w 1 false ≡ reserved → (valid : Bool) → word_valid 2 w dvcc ≡ valid → (not reserved && valid) ≡ false
      by true r valid v = refl
      by false r false v = refl
      by false r true v = absurd (none _ (taken-finished w 0 dvcc r v))

module _ (dvcc a : ℕ) (e : SacchEncoder) (given : List Given) (N : ℕ) (small : e.memory < 32) (one : 1 ≤ a) (reach : a + N ≤ 11 * length given + 1) where
  decodes : (n : ℕ) → 22 ≤ n → n ≤ N → decode_rows (heard_rows dvcc e given (a + n - 22)) dvcc ≡ finished (heard_bits dvcc given (a + n - 22)) 0 dvcc
  decodes n lo hi = heard_decodes dvcc e given (a + n - 22) small (omega arith) (omega arith)

  pub premise_from_bits : NoWordHeard dvcc a given N → NoFalseWord dvcc a e given N
  premise_from_bits none n lo hi off x z =
      false≢true (sym (none n lo hi off) ∙ accepted_word (heard_bits dvcc given (a + n - 22)) dvcc (sym (decodes n lo hi) ∙ z))

  pub bits_from_premise : NoFalseWord dvcc a e given N → NoWordHeard dvcc a given N
  bits_from_premise none n lo hi off = other_word (heard_bits dvcc given (a + n - 22)) dvcc (λ x z. none n lo hi off x (decodes n lo hi ∙ z))

-- ---- four words of ones under colour code 1
abbrev pub ones : List Given
ones = replicate 4 (record { continuation = false; message = 281474976710655 })

test : ℕ → Bool
test k = cond (eqb (suc k % 11) 1) true (not (is_word (heard_bits 1 ones (suc k)) 1))

not_word : (begins word : Bool) → T (cond begins true (not word)) → begins ≡ false → word ≡ false
not_word begins false t e = refl
not_word false true t e = absurd t
not_word true true t e = absurd (false≢true (sym e))

-- 42 fields of them, heard from the first on
ones_tested : NoWordHeard 1 1 ones 42
unfolding test bits_sent made_of checksum_of carries divided added packed unpacked
ones_tested n lo hi off =
    let m : 1 + n - 22 ≡ suc (n - 22) = omega arith in
    ap (λ (i : ℕ). is_word (heard_bits 1 ones i) 1) m
    ∙ not_word (eqb (suc (n - 22) % 11) 1) (is_word (heard_bits 1 ones (suc (n - 22))) 1) (below test 21 tt (n - 22) (omega arith))
    (ne_eqb (suc (n - 22) % 11) 1 (λ y. off (omega arith)))

pub premise_met : (e : SacchEncoder) → e.memory < 32 → NoFalseWord 1 1 e ones 42
premise_met e h = premise_from_bits 1 1 e ones 42 h (omega arith) (omega arith) ones_tested

-- ---- the rule on them, from any encoder and for any receiver that is not refused
fields_twelve : (sixes : List ℕ) (e : SacchEncoder) → all_twelve (fields_from e sixes) ≡ true
unfolding fields_from
fields_twelve [] e = below_none 4096
fields_twelve (six ∷ sixes) e =
    below_cons 4096 (field_now (encoded e six)) (fields_from (encoded e six) sixes) (field_fits (encoded e six).rows (encoded e six).cursor)
    ∙ fields_twelve sixes (encoded e six)

module _ (e : SacchEncoder) (r : SacchReceiver) (encoder : encoder_fits e ≡ true) (encoder_rows : length e.rows ≡ 12)
    (receiver : receiver_fits r ≡ true) (receiver_fields : length r.deinterleaver.fields ≡ 12) (receiver_rows : length r.rows ≡ 11) where
  abbrev sender : FittingEncoder e
  sender = record { fit = fit_of e encoder; rows_length = encoder_rows }

  abbrev listener : Fitting r
  listener = record { fit = receiving.fit_of r receiver; fields_length = receiver_fields; rows_length = receiver_rows }

  -- the first 42 fields
  abbrev pub ones_heard : List ℕ
  ones_heard = take 42 (fields_sent e (word_calls 1 ones))

  words : Words 1 e (word_calls 1 ones) ones
  unfolding all_below
  words = words_sent 1 ones sender refl

  sent : fields_sent e (word_calls 1 ones) ≡ fields_from e (sixes_for_all 1 ones)
  sent = fields_sent_lem 1 words sender

  heard_size : length ones_heard ≡ 42
  heard_size = length-take-le 42 (fields_sent e (word_calls 1 ones))
      (let all : length (fields_sent e (word_calls 1 ones)) ≡ 11 * 4 = ap length sent ∙ fields_length (sixes_for_all 1 ones) e ∙ all_length 1 ones in omega arith)

  pub rule_applies : Promised 1 1 e ones r (field_pushes 1 ones_heard) 42
  rule_applies =
      subst (Promised 1 1 e ones r (field_pushes 1 ones_heard)) heard_size
      (listening 1 1 e (word_calls 1 ones) ones r (field_pushes 1 ones_heard) ones_heard
      (record {
        words = words;
        from_one = omega arith;
        encoder_fit = encoder;
        encoder_rows = encoder_rows;
        receiver_fit = receiver;
        receiver_fields = receiver_fields;
        receiver_rows = receiver_rows;
        pushed = fields_pushed 1 ones_heard listener (below_take 4096 42 (fields_sent e (word_calls 1 ones)) (ap all_twelve sent ∙ fields_twelve (sixes_for_all 1 ones) e));
        in_order = ap (λ (n : ℕ). take n (fields_sent e (word_calls 1 ones))) heard_size;
      })
      (subst (NoFalseWord 1 1 e ones) (sym heard_size) (premise_met e sender.fit.memory)))
