use Rattle.std.proofs.Common.{◌∙◌, sym}
use Rattle.vh_cases_plain.specs.Views.{under}
use Rattle.vh_cases_plain.proofs.ViewsLemmas.{length-cells}
use Rattle.vh_cases_plain.proofs.slots.PlainSlots.slots.Goals as goal

pub returns : goal.returns
returns g c =
    c.len.ensures ∙ c.self.inside.generations.ok.0
    ∙ sym (length-cells c.self.inside.generations.items (under c.self.inside.values) c.self.inside.limit c.self.inside.first c.args.self.now c.self.view_is)
