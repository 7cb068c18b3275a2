-- A slot carries each place of a frame once.
use Rattle.std.proofs.Common.{arith}
use Rattle.interleaving.specs.Orders.{OrderLaws}
use Rattle.speech_interleaver.specs.Wire.{place_of, wire_of}

pub order_laws : OrderLaws place_of wire_of
order_laws = record { place_below = λ wire h. omega arith; wire_below = λ place h. omega arith; wire_of_place = λ wire h. omega arith; place_of_wire = λ place h. omega arith }
