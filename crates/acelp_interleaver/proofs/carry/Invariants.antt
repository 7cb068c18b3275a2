-- `acelp_interleaver::carry` meets its contract: the rows of the frames passed are written. Assumes nothing.
use Rattle.std.proofs.Common.{◌-◌, ◌/◌, ◌%◌, get_or}
use Rattle.interleaving.proofs.Parts.{Turns}
use Rattle.acelp_interleaver.specs.Wire.{place_at, third}
use Rattle.acelp_interleaver.proofs.carry.Given as goal

abbrev pub invariant-loop-first : goal.invariant-loop-first
invariant-loop-first l =
    Turns (λ w. w / 10 % l.slots) (λ w. get_or (third l.history (2 - (l.slots - 1 - w / 10 % l.slots))) (place_at w) 0) l.initial.slot l.slot l.first
