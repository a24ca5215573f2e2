use Rattle.std.proofs.Common.{◌∙◌, sym}
use Rattle.vh_cases_plain.specs.Views.{under}
use Rattle.vh_cases_plain.proofs.ViewsLemmas.{key-value}
use Rattle.vh_cases_plain.proofs.slots.PlainSlots.get.Goals as goal

pub returns : goal.returns
returns g c =
    c.get.ensures.value
    ∙ sym (key-value c.self.inside.generations.items (under c.self.inside.values) c.self.inside.limit c.self.inside.first c.args.key.slot
    c.args.key.generation c.args.self.now c.self.view_is (sym c.is_of.ensures ∙ c.if-not-is_of.false)).2
