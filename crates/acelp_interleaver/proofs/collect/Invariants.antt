-- `acelp_interleaver::collect` meets its contract: the rows of the slots passed are written. Assumes nothing.
use Rattle.std.proofs.Common.{◌-◌, ◌/◌, ◌%◌, get_or}
use Rattle.interleaving.proofs.Parts.{Turns}
use Rattle.acelp_interleaver.specs.Wire.{wire_of, third}
use Rattle.acelp_interleaver.proofs.collect.Given as goal

abbrev pub invariant-loop-age : goal.invariant-loop-age
invariant-loop-age l =
    Turns (λ p. l.spread - 1 - wire_of p / 10 % l.spread) (λ p. get_or (third l.slots (l.spread - 1 - wire_of p / 10 % l.spread)) (wire_of p) 0) l.initial.frame l.frame l.age
