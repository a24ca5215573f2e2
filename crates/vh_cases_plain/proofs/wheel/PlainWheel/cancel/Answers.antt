use Rattle.std.proofs.Common.{◌∙◌, ap, sym, None}
use Rattle.vh_wheel.specs.Schedule.{is_held, payload_of}
use Rattle.vh_wheel.proofs.SchedulesLemmas.{cancels-held}
use Rattle.vh_cases_plain.specs.Views.{under, entry_of, schedule_in}
use Rattle.vh_cases_plain.proofs.ViewsLemmas.{written, entry-seen, is-held-some, cancels}
use Rattle.vh_cases_plain.proofs.wheel.PlainWheel.cancel.Goals as goal

pub unreachable-requires : goal.unreachable-requires
unreachable-requires c =
    let is = entry-seen c.self.inside.nodes c.self.inside.present (under c.self.inside.held) c.args.self.now c.args.node c.self.view_is c.self.invariant in
    is-held-some (under c.self.inside.held c.args.node) (ap is_held (sym is) ∙ c.requires) (sym c.remove.ensures.value ∙ c.in_default.is)

pub returns-clause-payload : goal.returns-clause-payload
returns-clause-payload c =
    ap payload_of (entry-seen c.self.inside.nodes c.self.inside.present (under c.self.inside.held) c.args.self.now c.args.node c.self.view_is c.self.invariant
    ∙ ap entry_of (sym c.remove.ensures.value ∙ c.in-Some.is))

pub returns-clause-cancelled : goal.returns-clause-cancelled
returns-clause-cancelled c =
    cancels c.self.inside.nodes c.self.inside.present c.args.node c.in-Some.held (under c.self.inside.held) (under c.remove.new.self) c.args.self.now
    c.self.view_is c.self.invariant (sym c.remove.ensures.value ∙ c.in-Some.is) (written c.self.inside.held c.remove.new.self c.args.node None c.remove.ensures.updates)

pub returns-clause-held : goal.returns-clause-held
returns-clause-held c =
    cancels-held c.args.node c.args.self.now (schedule_in c.self.inside.nodes c.self.inside.present (under c.remove.new.self)) (returns-clause-cancelled c)
    c.requires
