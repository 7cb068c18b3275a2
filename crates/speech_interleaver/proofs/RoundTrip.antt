-- A frame comes back from the two slots that carry it. Assumes nothing.
use mathlib.Core.Path.{◌≡◌}
use mathlib.Core.List.{List}
use lib.ListN.{length}
use Rattle.interleaving.proofs.RoundTrip.{between_two}
use Rattle.speech_interleaver.specs.Wire.{place_at, wire_of, interleaved, deinterleaved}
use Rattle.speech_interleaver.specs.Laws.{order_laws}

pub vselp_slots_round_trip : {A : Type 0} (d : A) (before frame after : List A) → length frame ≡ 260
    → deinterleaved d (interleaved d before frame) (interleaved d frame after) ≡ frame
unfolding interleaved deinterleaved
vselp_slots_round_trip d before frame after size = between_two d place_at wire_of order_laws.wire_below order_laws.place_of_wire before frame after size
