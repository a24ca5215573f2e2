use Rattle.std.proofs.Common.{refl}
use Rattle.vh_cases_plain.specs.Views.{under}
use Rattle.vh_cases_plain.proofs.ViewsLemmas.{kept-later, takes-none}
use Rattle.vh_cases_plain.proofs.wheel.PlainWheel.take_due.Goals as goal

pub invariant_of-self : goal.invariant_of-self
invariant_of-self c =
    kept-later c.self.inside.nodes c.self.inside.present c.args.time (under c.self.inside.held) c.args.self.now c.self.view_is c.self.invariant
    c.requires.least

pub returns-in_err-due-clause-taken : goal.returns-in_err-due-clause-taken
returns-in_err-due-clause-taken c =
    takes-none c.self.inside.nodes c.self.inside.present c.args.time (under c.self.inside.held) c.args.self.now c.from_residual.result c.self.view_is
    (c.in_err-due.ensures.none refl) c.from_residual.ensures
