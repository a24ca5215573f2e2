use Rattle.std.proofs.Common.{◌≡◌, ◌<◌, length, ap, arith}
use Rattle.vh_app.proofs.NextLemmas.{step-on}
use Rattle.vh_app.proofs.script.Script.next.Goals as goal

pub loop-preserved : goal.loop-preserved
loop-preserved c =
    let same = ap length c.as_slice-end.ensures in
    let held = ap (λ s. length s.nodes) c.self.view_is in
    let less : c.loop.counter < length c.args.self.now.nodes = omega (arith, same, held, c.loop-test.true) in
    step-on (length c.args.self.now.nodes) c.loop.counter c.args.self.now c.args.seen.now c.loop.vars c.loop.at _ _
    less c.in_ok-ordered.ensures c.in_default.is c.loop.invariant
