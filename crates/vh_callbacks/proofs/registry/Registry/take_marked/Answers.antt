use Rattle.vh_callbacks.proofs.KeepingLemmas.{kept_taken}
use Rattle.vh_callbacks.proofs.registry.Registry.take_marked.Goals as goal

pub invariant_of-self : goal.invariant_of-self
invariant_of-self g c =
    kept_taken c.args.depth c.take_at.result c.self.inside.entries.entries c.self.inside.index.entries c.self.inside.next c.self.inside.count c.self.inside.sets.items c.take_at.new.sets.items
    c.take_at.ensures.left c.take_at.ensures.kept c.self.invariant
