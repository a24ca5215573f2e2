use Rattle.std.proofs.Common.{◌≡◌, ◌∙◌, ◌+◌, ◌++◌, ◌∷◌, [], length, ap, arith, Some, List, ℕ}
use Rattle.std.proofs.lemmas.List.{length-append}
use Rattle.vh_cases_plain.specs.Views.{under}
use Rattle.vh_cases_plain.proofs.ViewsLemmas.{written, within-write, opens, length-cells}
use Rattle.vh_cases_plain.proofs.slots.PlainSlots.open.Goals as goal

grown : (gs hs : List ℕ) (y : ℕ) → hs ≡ gs ++ y ∷ [] → length hs ≡ length gs + 1
grown gs hs y is = ap (λ (ks : List ℕ). length ks) is ∙ length-append gs (y ∷ [])

pub invariant_of-self-in-Ok : goal.invariant_of-self-in-Ok
invariant_of-self-in-Ok g c =
    let size = c.len-slot.ensures ∙ c.reserve.new.self.ok.0 ∙ ap (λ (ks : List ℕ). length ks) c.reserve.ensures.items in
    let more = grown c.self.inside.generations.items c.push_reserved.new.self.items c.from.result
    (c.push_reserved.ensures.items ∙ ap (λ (ks : List ℕ). ks ++ c.from.result ∷ []) c.reserve.ensures.items) in
    let cells = length-cells c.self.inside.generations.items (under c.self.inside.values) c.self.inside.limit c.self.inside.first c.args.self.now c.self.view_is in
    within-write c.self.inside.generations.items c.push_reserved.new.self.items (under c.self.inside.values) (under c.insert.new.self) c.len-slot.result
    (Some c.args.value) c.self.invariant (omega (arith, size, more)) (omega (arith, more)) (omega (arith, more, cells, c.requires))
    (written c.self.inside.values c.insert.new.self c.len-slot.result (Some c.args.value) c.in-Ok.ensures.updates)

pub returns-in-Ok-clause-given : goal.returns-in-Ok-clause-given
returns-in-Ok-clause-given g c =
    opens c.self.inside.generations.items c.push_reserved.new.self.items (under c.self.inside.values) (under c.insert.new.self) c.self.inside.limit
    c.self.inside.first c.len-slot.result c.from.result c.args.value c.args.self.now c.self.view_is
    (c.push_reserved.ensures.items ∙ ap (λ (ks : List ℕ). ks ++ c.from.result ∷ []) c.reserve.ensures.items) c.from.ensures
    (c.len-slot.ensures ∙ c.reserve.new.self.ok.0 ∙ ap (λ (ks : List ℕ). length ks) c.reserve.ensures.items)
    (written c.self.inside.values c.insert.new.self c.len-slot.result (Some c.args.value) c.in-Ok.ensures.updates)
