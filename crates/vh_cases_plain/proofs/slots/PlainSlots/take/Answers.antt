use Rattle.std.proofs.Common.{◌∙◌, ◌+◌, ap, sym, refl, set, None}
use Rattle.vh_cases_plain.specs.Views.{under}
use Rattle.vh_cases_plain.proofs.ViewsLemmas.{written, key-value, takes}
use Rattle.vh_cases_plain.proofs.slots.PlainSlots.take.Goals as goal

pub returns-in_err-value-clause-value : goal.returns-in_err-value-clause-value
returns-in_err-value-clause-value g c =
    c.from_residual.ensures ∙ sym c.in_err-value.was ∙ c.remove.ensures.value
    ∙ sym (key-value c.self.inside.generations.items (under c.self.inside.values) c.self.inside.limit c.self.inside.first c.args.key.slot
    c.args.key.generation c.args.self.now c.self.view_is (sym c.is_of.ensures ∙ c.if-not-is_of.false)).2

pub returns-clause-value : goal.returns-clause-value
returns-clause-value g c =
    sym c.in_ok-value.was ∙ c.remove.ensures.value
    ∙ sym (key-value c.self.inside.generations.items (under c.self.inside.values) c.self.inside.limit c.self.inside.first c.args.key.slot
    c.args.key.generation c.args.self.now c.self.view_is (sym c.is_of.ensures ∙ c.if-not-is_of.false)).2

pub returns-clause-taken : goal.returns-clause-taken
returns-clause-taken g c =
    let found = key-value c.self.inside.generations.items (under c.self.inside.values) c.self.inside.limit c.self.inside.first c.args.key.slot
    c.args.key.generation c.args.self.now c.self.view_is (sym c.is_of.ensures ∙ c.if-not-is_of.false) in
    takes c.self.inside.generations.items (set c.self.inside.generations.items c.args.key.slot (c.from.result + 1)) (under c.self.inside.values)
    (under c.remove.new.self) c.self.inside.limit c.self.inside.first (c.from.result + 1) c.args.key c.args.self.now c.self.view_is found.0 refl
    (ap (λ k. k + 1) c.from.ensures) (written c.self.inside.values c.remove.new.self c.args.key.slot None c.remove.ensures.updates)
