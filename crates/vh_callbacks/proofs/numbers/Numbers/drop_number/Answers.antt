use Rattle.std.proofs.Common.{◌≡◌, ◌∙◌, sym, subst, Ok, Err}
use Rattle.std.specs.List.{remove}
use Rattle.vh_callbacks.specs.Marks.{IsSet}
use Rattle.vh_callbacks.proofs.MarksLemmas.{set_without, searched_is, where_some}
use Rattle.vh_callbacks.proofs.numbers.Numbers.drop_number.Goals as goal

pub invariant_of-self : goal.invariant_of-self
invariant_of-self c =
    let old = c.self.inside.items.items in
    let at = c.in-Ok.at in
    let is : c.remove.new.self.items ≡ remove old at =
    where_some c.remove.result (c.remove.new.self.items ≡ remove old at) c.remove.ensures.items (c.remove.ensures.variant.1 c.in-Ok.ensures.bound) in
    subst IsSet (sym (is ∙ searched_is c.args.c old (Ok at) c.self.invariant.rising c.in-Ok.ensures.position)) (set_without c.args.c old c.self.invariant)

pub returns-in-Ok : goal.returns-in-Ok
returns-in-Ok c =
    let old = c.self.inside.items.items in
    let at = c.in-Ok.at in
    let is : c.remove.new.self.items ≡ remove old at =
    where_some c.remove.result (c.remove.new.self.items ≡ remove old at) c.remove.ensures.items (c.remove.ensures.variant.1 c.in-Ok.ensures.bound) in
    rw (← c.self.view_is) (is ∙ searched_is c.args.c old (Ok at) c.self.invariant.rising c.in-Ok.ensures.position)

pub returns-in_default : goal.returns-in_default
returns-in_default c =
    rw (← c.self.view_is) (searched_is c.args.c c.self.inside.items.items (Err c.in_default.field-0) c.self.invariant.rising c.in_default.ensures.position)
