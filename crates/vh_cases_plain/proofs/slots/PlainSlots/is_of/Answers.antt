use Rattle.std.proofs.Common.{◌∙◌, ap, sym, nat_eq}
use Rattle.vh_cases_plain.specs.Views.{under, is_of_generation}
use Rattle.vh_cases_plain.proofs.ViewsLemmas.{cell-some, cell-past}
use Rattle.vh_cases_plain.proofs.slots.PlainSlots.is_of.Goals as goal

pub returns-in-Some : goal.returns-in-Some
returns-in-Some g c =
    ap (λ k. nat_eq c.in-Some.generation k) c.from.ensures
    ∙ sym (ap (is_of_generation c.args.key.generation)
    (cell-some c.self.inside.generations.items (under c.self.inside.values) c.self.inside.limit c.self.inside.first c.args.key.slot c.in-Some.generation
    c.args.self.now c.self.view_is (sym c.generation_at.ensures ∙ c.in-Some.is)))

pub returns-in-None : goal.returns-in-None
returns-in-None g c =
    sym (ap (is_of_generation c.args.key.generation)
    (cell-past c.self.inside.generations.items (under c.self.inside.values) c.self.inside.limit c.self.inside.first c.args.key.slot
    c.args.self.now c.self.view_is (sym c.generation_at.ensures ∙ c.in-None.is)))
