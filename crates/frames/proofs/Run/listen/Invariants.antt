-- `frames::Run::listen` meets its contract: what the turns so far come to. Assumes nothing.
use Prim.Native.Nat.{◌-◌}
use Rattle.frames.specs.Turns.{Turned}
use Rattle.frames.proofs.Run.listen.Given as goal

abbrev pub invariant-loop-turn : goal.invariant-loop-turn
invariant-loop-turn l = Turned (18446744073709551615 - l._turn) l.last l.self.session
