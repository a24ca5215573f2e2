use Rattle.vh_cases_plain.specs.Views.{under}
use Rattle.vh_cases_plain.proofs.ViewsLemmas.{least-later, least-end, least-all}
use Rattle.vh_cases_plain.proofs.wheel.PlainWheel.next_time.Goals as goal

pub loop-node-init : goal.loop-node-init
loop-node-init c = least-end c.self.inside.nodes c.self.inside.present (under c.self.inside.held) c.args.self.now c.self.view_is

pub returns-clause-later : goal.returns-clause-later
returns-clause-later c =
    least-later c.self.inside.nodes c.self.inside.present (under c.self.inside.held) c.args.self.now c.loop-node.least c.self.view_is c.self.invariant
    (least-all c.args.self.now.entries c.loop-node.node c.loop-node.least c.loop-node-test.false c.loop-node.invariant.1)
