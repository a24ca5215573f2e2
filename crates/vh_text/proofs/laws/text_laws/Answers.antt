use Rattle.std.proofs.Common.{arith}
use Rattle.vh_text.proofs.LawsLemmas.{binary_back, planes_back}
use Rattle.vh_text.proofs.laws.text_laws.Goals as goal

pub returns-clause-binary : goal.returns-clause-binary
returns-clause-binary c =
    let w = c.width-width.ensures in
    binary_back c.args.v.now (omega (arith, w.value, w.least)) (omega (arith, w.value, w.most))

pub returns-clause-planes : goal.returns-clause-planes
returns-clause-planes c =
    let w = c.width-width.ensures in
    planes_back c.args.v.now (omega (arith, w.value, w.most))
