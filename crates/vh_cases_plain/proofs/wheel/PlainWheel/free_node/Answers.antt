use Rattle.vh_cases_plain.specs.Views.{under}
use Rattle.vh_cases_plain.proofs.ViewsLemmas.{free-at-end}
use Rattle.vh_cases_plain.proofs.wheel.PlainWheel.free_node.Goals as goal

pub returns-clause-free : goal.returns-clause-free
returns-clause-free c =
    (free-at-end c.self.inside.nodes c.self.inside.present (under c.self.inside.held) c.args.self.now c.self.view_is c.self.invariant).0
