use Rattle.std.proofs.Common.{arith}
use Rattle.vh_cases_plain.specs.Views.{under}
use Rattle.vh_cases_plain.proofs.ViewsLemmas.{none-behind}
use Rattle.vh_cases_plain.proofs.wheel.PlainWheel.first_due.Goals as goal

pub returns-clause-none : goal.returns-clause-none
returns-clause-none c =
    λ _. none-behind c.self.inside.nodes c.self.inside.present c.args.time (under c.self.inside.held) c.args.self.now c.self.view_is c.self.invariant
    (λ x h. c.loop-node.invariant x (omega arith))
