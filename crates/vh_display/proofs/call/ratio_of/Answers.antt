use Rattle.std.proofs.Common.{arith}
use Rattle.vh_display.proofs.TextsLemmas.{ratio_most}
use Rattle.vh_display.proofs.call.ratio_of.Goals as goal

pub returns-clause-most : goal.returns-clause-most
returns-clause-most c =
    let k = c.from.result in
    let most = ratio_most k (omega (arith, c.from.ensures, c.requires.least, c.requires.most)) in
    omega (arith, c.pow.ensures, most)
