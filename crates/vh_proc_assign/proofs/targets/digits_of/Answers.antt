use Rattle.std.proofs.Common.{arith}
use Rattle.vh_proc_assign.proofs.PiecesLemmas.{are-targets}
use Rattle.vh_proc_assign.proofs.targets.digits_of.Goals as goal

pub loop-target-init : goal.loop-target-init
loop-target-init c =
    let are = are-targets _ _ c.args.targets.now c.requires in
    record { sum = omega arith; each = are.each; least = are.least; most = are.most }
