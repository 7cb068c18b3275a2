-- Table M is document 01's table of worked values. Its rows speak of the definitions that the contracts of the five modules cite.
use Rattle.std.specs.Prelude.{◌≡◌, true, false, [], ◌∷◌}
use Rattle.bits.specs.Numbers.{unpacked}
use Rattle.coding.specs.Codes.{dcch, facch, acelp}
use Rattle.coding.specs.Registers.{memory_high, memory_low, Stepped}
use Rattle.checksums.specs.Checksums.{checksum_from}
use Rattle.dcch.specs.Crc.{complemented, sent_checksum}
use Rattle.dcch.specs.declared.crc.CrcMode.TheVariants.{Broadcast, Addressed}
use Rattle.acelp_cc1.specs.Frames.{information_place}
use Rattle.dcch_interleaver.specs.declared.BlockFormat.TheVariants.{Forward}
use Rattle.dcch_interleaver.specs.Wire.{cell_at}
use Rattle.facch_interleaver.specs.Wire.{place_of}
use Rattle.speech.specs.Classes.{is_class_two}

pub record TableM : Type 0 where
  -- a step: state, input, next state, outputs
  pub dcch_step_of_one : Stepped dcch memory_high 0 true 16 (1 ∷ 1 ∷ [])
  pub dcch_step_of_zero : Stepped dcch memory_high 1 false 0 (1 ∷ 1 ∷ [])
  pub facch_step : Stepped facch memory_high 2 false 1 (1 ∷ 0 ∷ 0 ∷ 1 ∷ [])
  pub acelp_step : Stepped acelp memory_low 0 true 1 (1 ∷ 1 ∷ [])
  -- the checksum of no information: the register from 0 over colour code 1, and over colour code 0 complemented; and as DCCH's calls have it
  pub checksum_addressed : complemented Addressed (checksum_from (checksum_from 0 (unpacked 8 1)) []) ≡ 4129
  pub checksum_broadcast : complemented Broadcast (checksum_from (checksum_from 0 (unpacked 8 0)) []) ≡ 65535
  pub checksums_sent : (sent_checksum [] 1 Addressed ≡ 4129) × (sent_checksum [] 0 Broadcast ≡ 65535)
  -- ACELP positions of 0, 1, 48, 95
  pub acelp_positions : (information_place 0 ≡ 0) × (information_place 1 ≡ 102) × (information_place 48 ≡ 28) × (information_place 95 ≡ 52)
  -- Forward wire 1 and 20
  pub forward_cells : (cell_at Forward 1 ≡ 13) × (cell_at Forward 20 ≡ 2)
  -- FACCH (row 14, column 3) and (15, 3)
  pub facch_places : (place_of 14 3 ≡ 88) × (place_of 15 3 ≡ 216)
  -- VSELP class two at 92, 93, 130, 131
  pub class_two_lem : (is_class_two 92 ≡ false) × (is_class_two 93 ≡ true) × (is_class_two 130 ≡ true) × (is_class_two 131 ≡ false)
