-- `text::buffer::Buffer::extend_from_slice` meets its contract: what is put behind is appended. Assumes nothing.
use native.Mathlib.Omega.{arith}
use Rattle.text.proofs.Appended.{held_more, shown, shown_more}
use Rattle.text.proofs.buffer.Buffer.extend_from_slice.Goals as goal

pub invariant_of-self : goal.invariant_of-self
invariant_of-self g c = held_more c.self.invariant (omega (arith, shown c.self.view_is c.self.invariant, c.requires, c.put_text-self-inside.ensures.put.past, c.put_text-self-inside.ensures.value)) c.put_text-self-inside.ensures.put

pub returns-clause-bytes : goal.returns-clause-bytes
returns-clause-bytes g c =
    shown_more c.self.invariant (omega (arith, shown c.self.view_is c.self.invariant, c.requires, c.put_text-self-inside.ensures.put.past, c.put_text-self-inside.ensures.value)) c.put_text-self-inside.ensures.put c.self.view_is
