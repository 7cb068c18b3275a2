-- `text::buffer::Buffer::push` meets its contract: what is put behind is appended. Assumes nothing.
use native.Mathlib.Omega.{arith}
use Rattle.text.proofs.Appended.{held_more, shown}
use Rattle.text.proofs.buffer.Buffer.push.Goals as goal

pub invariant_of-self : goal.invariant_of-self
invariant_of-self g c = held_more c.self.invariant (omega (arith, shown c.self.view_is c.self.invariant, c.requires)) c.put-self-inside.ensures
