-- `text::buffer::Buffer::put_hexadecimal` meets its contract: what is put behind is appended. Assumes nothing.
use native.Mathlib.Omega.{arith}
use Rattle.text.proofs.Appended.{held_more, shown, shown_more}
use Rattle.text.proofs.buffer.Buffer.put_hexadecimal.Goals as goal

pub invariant_of-self : goal.invariant_of-self
invariant_of-self g c = held_more c.self.invariant (omega (arith, shown c.self.view_is c.self.invariant, c.requires, c.put_hexadecimal-self-inside.ensures.put.past, c.put_hexadecimal-self-inside.ensures.value)) c.put_hexadecimal-self-inside.ensures.put

pub returns-clause-text : goal.returns-clause-text
returns-clause-text g c =
    shown_more c.self.invariant (omega (arith, shown c.self.view_is c.self.invariant, c.requires, c.put_hexadecimal-self-inside.ensures.put.past, c.put_hexadecimal-self-inside.ensures.value)) c.put_hexadecimal-self-inside.ensures.put c.self.view_is
