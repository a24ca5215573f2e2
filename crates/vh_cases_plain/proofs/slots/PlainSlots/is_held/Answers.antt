use Rattle.std.proofs.Common.{◌∙◌}
use Rattle.vh_cases_plain.specs.Views.{under}
use Rattle.vh_cases_plain.proofs.ViewsLemmas.{held-one}
use Rattle.vh_cases_plain.proofs.slots.PlainSlots.is_held.Goals as goal

pub returns : goal.returns
returns g c =
    c.contains_key.ensures
    ∙ held-one c.self.inside.generations.items (under c.self.inside.values) c.self.inside.limit c.self.inside.first c.args.slot c.args.self.now
    c.self.view_is c.self.invariant
