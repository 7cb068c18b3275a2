-- What a call gives whose tests passed. Assumes nothing.
use mathlib.Core.Path.{◌≡◌}
use mathlib.Core.Bool.{Bool}
use Prim.Native.Nat.{ℕ, ◌^◌}
use Rattle.std.specs.Prelude.{Ok}
use Rattle.bits.specs.Arguments.{below_of, first_refusal}
use Rattle.sacch_encoder.specs.Encoder.{encode_bits_of, encode_word_of, encoder_state, encoded, encoded_all, field_now, fields_from}
use Rattle.sacch_encoder.specs.Words.{sixes_of, word_of}
use Rattle.sacch_encoder.specs.declared.SacchEncoder.{SacchEncoder}

pub bits_sent : (e : SacchEncoder) (six : ℕ) → first_refusal (encoder_state e) (below_of 64 six) ≡ Ok tt
    → encode_bits_of e six ≡ record { answer = Ok (field_now (encoded e six)); encoder = encoded e six }
unfolding encode_bits_of
bits_sent e six ready = rw ready

pub word_sent : (e : SacchEncoder) (continuation : Bool) (message dvcc : ℕ) → first_refusal (encoder_state e) (below_of (2 ^ 48) message) ≡ Ok tt
    → encode_word_of e continuation message dvcc
    ≡ record { answer = Ok (fields_from e (sixes_of (word_of continuation message dvcc))); encoder = encoded_all e (sixes_of (word_of continuation message dvcc)) }
unfolding encode_word_of
word_sent e continuation message dvcc ready = rw ready
