use Rattle.vh_handles.proofs.LawsLemmas.{kept-freed}
use Rattle.vh_handles.proofs.handles.Handles.free.Goals as goal

pub invariant_of-self : goal.invariant_of-self
invariant_of-self c =
    rw c.remove.ensures.entries (kept-freed c.self.inside.live.entries c.self.inside.next c.number.result c.self.invariant)
