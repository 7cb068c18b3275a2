-- Table M holds, by computation. Assumes nothing.
use mathlib.Core.Path.{refl}
use lib.Dec.{lit<}
use Rattle.bits.specs.Numbers.{packed, unpacked}
use Rattle.coding.specs.Codes.{tapped}
use Rattle.checksums.specs.Checksums.{added, checksum_from, checksum_of, divided}
use Rattle.acelp_cc1.specs.Frames.{information_place}
use Rattle.dcch.specs.Crc.{sent_checksum}
use Rattle.dcch_interleaver.specs.Wire.{across, every_second, wire_order, cell_at}
use Rattle.facch_interleaver.specs.Wire.{table, place_of}
use Rattle.speech.specs.Classes.{is_class_two}
use Rattle.table_m.specs.TableM.{TableM}

pub table_m : TableM
unfolding tapped packed unpacked added divided checksum_from checksum_of sent_checksum information_place across every_second wire_order cell_at table place_of is_class_two
table_m = record {
  dcch_step_of_one = record { sent = refl; below = lit< tt; holds = refl };
  dcch_step_of_zero = record { sent = refl; below = lit< tt; holds = refl };
  facch_step = record { sent = refl; below = lit< tt; holds = refl };
  acelp_step = record { sent = refl; below = lit< tt; holds = refl };
  checksum_addressed = refl;
  checksum_broadcast = refl;
  checksums_sent = (refl, refl);
  acelp_positions = (refl, refl, refl, refl);
  forward_cells = (refl, refl);
  facch_places = (refl, refl);
  class_two_lem = (refl, refl, refl, refl);
}
