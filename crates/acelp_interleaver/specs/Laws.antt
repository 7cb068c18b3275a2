-- A slot carries each place of a frame once: a test that antt computes over the table.
use lib.Dec.{T}
use Rattle.bits.specs.Places.{listed, place_in}
use Rattle.bits.proofs.Permuted.{permutes, stands, found}
use Rattle.interleaving.specs.Orders.{OrderLaws}
use Rattle.interleaving.proofs.Orders.{permuted_laws}
use Rattle.acelp_interleaver.specs.Wire.{table, place_of, place_at, wire_of}

pub passed : T (permutes (listed 260 place_at) 260)
unfolding permutes stands found place_in listed table
passed = tt

pub order_laws : OrderLaws place_of wire_of
unfolding wire_of
order_laws = permuted_laws place_of passed
