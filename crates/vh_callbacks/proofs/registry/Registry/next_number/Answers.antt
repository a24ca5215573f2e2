use Rattle.std.proofs.Common.{subst}
use Rattle.vh_callbacks.specs.Marks.{IsMarked}
use Rattle.vh_callbacks.proofs.KeepingLemmas.{kept_marked}
use Rattle.vh_callbacks.proofs.registry.Registry.next_number.Goals as goal

pub returns-clause-marked : goal.returns-clause-marked
returns-clause-marked g c =
    subst IsMarked c.self.view_is
    (kept_marked c.self.inside.entries.entries c.self.inside.index.entries c.self.inside.next c.self.inside.count c.self.inside.sets.items c.self.invariant)
