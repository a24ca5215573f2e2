use Rattle.std.proofs.Common.{ap, ◌∙◌, sym}
use Rattle.vh_slots.specs.Table.{Table, held, after_replace}
use Rattle.vh_slots.specs.Views.{value_in}
use Rattle.vh_slots.proofs.ViewsLemmas.{position-found, held-is, replaced-is}
use Rattle.vh_slots.proofs.slots.Slots.replace.Goals as goal

pub returns-clause-old : goal.returns-clause-old
returns-clause-old g c =
    ap (held c.args.key) (sym c.self.view_is) ∙ held-is c.args.key.generation c.self.inside.values c.self.inside.slots.items c.args.key.slot
    ∙ ap (value_in c.self.inside.values) (sym c.in-Some.ensures) ∙ c.remove-old.ensures.value

pub returns-clause-replaced : goal.returns-clause-replaced
returns-clause-replaced g c =
    let p = position-found c.args.key.generation c.self.inside.slots.items c.args.key.slot c.in-Some.at (sym c.in-Some.ensures) in
    replaced-is _ _ _ _ _ _ _ _ _ _ _ _ _ c.self.invariant p.1 p.2 c.remove-old.ensures.updates c.insert_reserved.ensures.updates
    (c.insert_reserved.ensures.key ∙ c.remove-old.ensures.key_is_next)
    ∙ ap (λ (t : Table _). after_replace c.args.key c.args.value t) c.self.view_is
