use Rattle.std.proofs.Common.{arith}
use Rattle.vh_proc_turn.proofs.DrivesLemmas.{are-drivers}
use Rattle.vh_proc_turn.proofs.drives.digits_driven.Goals as goal

pub loop-x-init : goal.loop-x-init
loop-x-init c =
    let are = are-drivers _ _ c.requires in
    record { sum = omega arith; each = are.each; least = are.least; most = are.most }
