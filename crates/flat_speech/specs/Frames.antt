-- Answers of the speech decoders as flat records.
use Rattle.std.specs.Prelude.{◌≡◌, Bool, true, false, List, ℕ, Result, Ok, Err}
use Rattle.bits.specs.Refusals.{number_of, expected_of, actual_of}
use Rattle.bits.specs.declared.Refusal.{Refusal}
use Rattle.speech.specs.Calls as vselp
use Rattle.speech.specs.declared.SpeechCandidate.{SpeechCandidate}
use Rattle.speech.specs.declared.CrcStatus.{CrcStatus}
use Rattle.speech.specs.declared.CrcStatus.TheVariants.{Valid, Failed}
use Rattle.acelp_cc1.specs.Calls as acelp
use Rattle.acelp_cc1.specs.declared.DecodedFrame.{DecodedFrame}
use Rattle.flat_speech.specs.declared.Frame.{Frame}

abbrev pub no_frame : Refusal → Frame
no_frame why = record { refusal = number_of why; expected = expected_of why; actual = actual_of why; valid = false; corrected = 0 }

abbrev pub is_valid : CrcStatus → Bool
is_valid Valid = true
is_valid Failed = false

abbrev pub vselp_frame : Result SpeechCandidate Refusal → Frame
vselp_frame (Ok t) = record { refusal = 0; expected = 0; actual = 0; valid = is_valid t.crc; corrected = t.corrected }
vselp_frame (Err why) = no_frame why

abbrev pub acelp_frame : Result DecodedFrame Refusal → Frame
acelp_frame (Ok t) = record { refusal = 0; expected = 0; actual = 0; valid = t.crc_valid; corrected = t.corrected }
acelp_frame (Err why) = no_frame why

-- what a decoding leaves, its answer made flat
pub record VselpExit (x : vselp.Exit) (class_one class_two : List ℕ) (r : Frame) : Type 0 where
  pub frame : r ≡ vselp_frame x.answer
  pub one : class_one ≡ x.class_one
  pub two : class_two ≡ x.class_two

pub record AcelpExit (x : acelp.Exit) (speech : List ℕ) (r : Frame) : Type 0 where
  pub frame : r ≡ acelp_frame x.answer
  pub written : speech ≡ x.speech
