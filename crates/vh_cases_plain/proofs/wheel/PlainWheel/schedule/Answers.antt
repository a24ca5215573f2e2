use Rattle.std.proofs.Common.{arith, Some}
use Rattle.vh_wheel.proofs.SchedulesLemmas.{schedules-held}
use Rattle.vh_cases_plain.specs.Views.{under, schedule_in}
use Rattle.vh_cases_plain.proofs.ViewsLemmas.{written, few-nodes, schedules, kept-more, seen-later}
use Rattle.vh_cases_plain.proofs.wheel.PlainWheel.schedule.Goals as goal

pub overflow_add-node : goal.overflow_add-node
overflow_add-node c =
    let few = few-nodes c.self.inside.nodes c.self.inside.present c.free_node-node.result (under c.self.inside.held) c.args.self.now c.self.view_is
    c.self.invariant c.free_node-node.ensures.within c.free_node-node.ensures.first c.requires.few in
    omega (arith, few)

pub invariant_of-self-2 : goal.invariant_of-self-2
invariant_of-self-2 c =
    kept-more c.self.inside.nodes c.self.inside.present c.free_node-node.result c.max-self-inside.result (record { time = c.args.time; payload = c.args.payload })
    (under c.self.inside.held) (under c.insert.new.self) c.self.invariant
    (few-nodes c.self.inside.nodes c.self.inside.present c.free_node-node.result (under c.self.inside.held) c.args.self.now c.self.view_is
    c.self.invariant c.free_node-node.ensures.within c.free_node-node.ensures.first c.requires.few)
    c.max-self-inside.ensures (seen-later c.self.inside.nodes c.self.inside.present c.args.time (under c.self.inside.held) c.args.self.now c.self.view_is c.requires.later)
    (written c.self.inside.held c.insert.new.self c.free_node-node.result (Some (record { time = c.args.time; payload = c.args.payload })) c.in-Ok.ensures.updates)

pub returns-clause-scheduled : goal.returns-clause-scheduled
returns-clause-scheduled c =
    schedules c.self.inside.nodes c.self.inside.present c.free_node-node.result c.max-self-inside.result (record { time = c.args.time; payload = c.args.payload })
    (under c.self.inside.held) (under c.insert.new.self) c.args.self.now c.self.view_is c.self.invariant c.free_node-node.ensures.free
    c.free_node-node.ensures.within c.max-self-inside.ensures
    (written c.self.inside.held c.insert.new.self c.free_node-node.result (Some (record { time = c.args.time; payload = c.args.payload })) c.in-Ok.ensures.updates)

pub returns-clause-held : goal.returns-clause-held
returns-clause-held c =
    schedules-held c.free_node-node.result (record { time = c.args.time; payload = c.args.payload }) c.args.self.now
    (schedule_in c.max-self-inside.result c.self.inside.present (under c.insert.new.self)) (returns-clause-scheduled c)
