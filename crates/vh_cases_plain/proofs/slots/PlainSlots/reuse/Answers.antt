use Rattle.std.proofs.Common.{arith, Some}
use Rattle.vh_cases_plain.specs.Views.{under}
use Rattle.vh_cases_plain.proofs.ViewsLemmas.{written, within-write, free-slot, reuses, reused-below}
use Rattle.vh_cases_plain.proofs.slots.PlainSlots.reuse.Goals as goal

pub index-requires : goal.index-requires
index-requires g c =
    let free = free-slot c.self.inside.generations.items (under c.self.inside.values) c.self.inside.limit c.self.inside.first c.args.slot c.args.self.now
    c.self.view_is c.requires in
    omega (arith, free.0, c.self.inside.generations.ok.0)

pub overflow_cast-generation : goal.overflow_cast-generation
overflow_cast-generation g c =
    let below = reused-below c.self.inside.generations.items (under c.self.inside.values) c.self.inside.limit c.self.inside.first c.args.slot c.index.result.now
    c.args.self.now c.self.view_is c.requires c.index.ensures in
    omega (arith, below)

pub invariant_of-self : goal.invariant_of-self
invariant_of-self g c =
    let free = free-slot c.self.inside.generations.items (under c.self.inside.values) c.self.inside.limit c.self.inside.first c.args.slot c.args.self.now
    c.self.view_is c.requires in
    within-write c.self.inside.generations.items c.self.inside.generations.items (under c.self.inside.values) (under c.insert.new.self) c.args.slot
    (Some c.args.value) c.self.invariant free.0 (omega arith) c.self.invariant.few
    (written c.self.inside.values c.insert.new.self c.args.slot (Some c.args.value) c.in-Ok.ensures.updates)

pub returns-in-Ok-clause-given : goal.returns-in-Ok-clause-given
returns-in-Ok-clause-given g c =
    reuses c.self.inside.generations.items (under c.self.inside.values) (under c.insert.new.self) c.self.inside.limit c.self.inside.first c.args.slot
    c.index.result.now c.args.value c.args.self.now c.self.view_is c.requires c.index.ensures
    (written c.self.inside.values c.insert.new.self c.args.slot (Some c.args.value) c.in-Ok.ensures.updates)
