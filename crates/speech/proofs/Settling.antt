-- The ends of a search: unclear, or settled by the one nearest word. Assumes nothing.
use mathlib.Core.Path.{◌≡◌, refl, sym, ap, ap₂, subst, ◌∙◌}
use mathlib.Core.Bool.{Bool, true, false, cond, not, false≢true}
use mathlib.Core.List.{List, [], ◌∷◌, map, reverse}
use Prim.Native.Nat.{ℕ, suc}
use lib.ListN.{length, take, drop}
use Rattle.bits.specs.Bits.{bit, bits, bytes, all_binary}
use Rattle.std.specs.Prelude.{Ok}
use Rattle.bits.specs.Arguments.{Arguments}
use Rattle.bits.specs.declared.Refusal.TheVariants as refusal
use Rattle.bits.proofs.Binary.{bits-bytes, bytes_bits, binary_bytes, bits-take, bits-drop, binary_take, binary_drop}
use Rattle.trellis.specs.Search.{Found, FoundFirst}
use Rattle.trellis.specs.Words.{Terminated}
use Rattle.trellis.specs.declared.Outcome.{Outcome}
use Rattle.trellis.proofs.Decided.{decided_alone, decided_shared}
use Rattle.viterbi.specs.Hard.{weight}
use Rattle.speech.specs.Classes.{is_class_two, taken_from, class_two_of, protected_of}
use Rattle.speech.specs.Inputs.{class_one_of}
use Rattle.speech.specs.declared.CrcStatus.{CrcStatus}
use Rattle.speech.specs.Calls.{exit_of, refused_exit, decode_arguments, frame_weight, status_of, accepted_exit, decode_of, decoding, decode_call}
use Rattle.speech.proofs.Meaning.{vselp_decided}

-- ---- taking commutes with a function of the elements, so bits stay bits
pub map-taken : {A B : Type 0} (g : A → B) (test : ℕ → Bool) (p : ℕ) (l : List A) → map g (taken_from test p l) ≡ taken_from test p (map g l)
unfolding taken_from
map-taken g test p [] = refl
map-taken {A} {B} g test p (x ∷ l) = go (test p) _ _ (map-taken g test (suc p) l)
  where
    go : (t : Bool) (u : List A) (w : List B) → map g u ≡ w → map g (cond t (x ∷ u) u) ≡ cond t (g x ∷ w) w
    go true u w e = ap (λ (r : List B). g x ∷ r) e
    go false u w e = e

-- ---- `nearest_inputs`
module _ (frame : List ℕ) {protected : List ℕ} (e : protected ≡ protected_of frame) where
  pub found : {n : ℕ} {inputs : List ℕ} {r : Outcome} → n ≡ 89 → FoundFirst (Terminated n) (weight (bits protected)) inputs r → Found (Terminated 89) (frame_weight frame) inputs r
  found {n} {inputs} {r} size g =
      subst (λ (m : ℕ). Found (Terminated m) (frame_weight frame) inputs r) size
      (subst (λ (u : List Bool). Found (Terminated n) (weight u) inputs r) (ap bits e ∙ map-taken bit (λ q. not (is_class_two q)) 0 frame) g.found)

-- ---- the ends
-- what the search writes is bits
inputs_binary : {Word : List Bool → Type 0} {weight : List Bool → ℕ} {inputs : List ℕ} {r : Outcome} → Found Word weight inputs r → all_binary inputs ≡ true
inputs_binary f = ap all_binary f.written ∙ binary_bytes (reverse f.word)

module _ (frame one₀ two₀ : List ℕ) (passed : decode_arguments frame (length one₀) (length two₀) ≡ Ok tt) {inputs : List ℕ} {r : Outcome}
    (f : Found (Terminated 89) (frame_weight frame) inputs r) where
  searched : decode_call frame one₀ two₀ ≡ decode_of frame one₀ two₀
  searched = ap (λ (l : Arguments). decoding l frame one₀ two₀) passed

  pub unclear_end : r.tie ≡ true → refused_exit refusal.Ambiguous one₀ two₀ ≡ decode_call frame one₀ two₀
  unclear_end t = sym (searched ∙ decided_shared (vselp_decided frame one₀ two₀) (f.tied t))

  pub settled_end : {one two : List ℕ} {status : CrcStatus} → r.tie ≡ false → one ≡ take 77 (drop 4 inputs) → two ≡ class_two_of frame
      → status ≡ status_of (bits inputs) → exit_of (Ok (record { crc = status; corrected = r.metric })) one two ≡ decode_call frame one₀ two₀
  unfolding accepted_exit
  settled_end {one} t e₁ e₂ es =
      let written : one ≡ bytes (class_one_of (bits inputs)) =
      e₁ ∙ sym (bytes_bits (take 77 (drop 4 inputs)) (binary_take 77 (drop 4 inputs) (binary_drop 4 inputs (inputs_binary f))))
      ∙ ap bytes (bits-take 77 (drop 4 inputs) ∙ ap (take 77) (bits-drop 4 inputs)) in
      (λ i. record { answer = Ok (record { crc = es i; corrected = r.metric }); class_one = written i; class_two = e₂ i }) ∙ ap₂ (accepted_exit frame) (ap bits f.written ∙ bits-bytes (reverse f.word)) f.metric
      ∙ sym (searched ∙ decided_alone (vselp_decided frame one₀ two₀) f.nearest (λ a. false≢true (sym t ∙ f.alone a)))
