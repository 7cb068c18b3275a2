-- `session::Session::keep` meets its contract: as many bytes are kept as there is room for. Assumes nothing.
use mathlib.Core.Path.{ap, ◌∙◌}
use Prim.Native.Nat.{◌-◌, min}
use lib.ListN.{length}
use Rattle.session.proofs.Gathered.{kept_seen}
use Rattle.session.proofs.Session.keep.Goals as goal

pub returns : goal.returns
returns c =
    rw (c.extend_from_slice.ensures.bytes, ← c.self.view_is)
    (kept_seen _ _ _ c.self.invariant.within (c.min-n.ensures ∙ ap (λ n. min (length c.args.part.now) (137 - n)) c.len.ensures.value) c.requires)
