use Rattle.std.proofs.Common.{refl}
use Rattle.vh_callbacks.specs.Callbacks.{with_data}
use Rattle.vh_callbacks.proofs.KeepingLemmas.{kept_changed}
use Rattle.vh_callbacks.proofs.Views.{seen_changed}
use Rattle.vh_callbacks.proofs.registry.Registry.set_data.Goals as goal

pub invariant_of-self : goal.invariant_of-self
invariant_of-self g c =
    rw c.put_data.ensures
    (kept_changed (with_data c.args.n) c.number.result c.self.inside.entries.entries c.self.inside.index.entries c.self.inside.next c.self.inside.count c.self.inside.sets.items
    c.self.invariant (λ w l. refl) (λ l at. c.self.invariant.runs c.number.result l at))

pub returns : goal.returns
returns g c =
    rw (c.put_data.ensures, ← c.self.view_is, ← c.number.ensures, seen_changed (with_data c.args.n) c.number.result c.self.inside.next c.self.inside.entries.entries c.self.invariant.rise) refl
