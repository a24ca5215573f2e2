use Rattle.std.proofs.Common.{◌≡◌, take}
use Rattle.vh_elab_drives.specs.Nets.{drivers_sum}
use Rattle.vh_elab_drives.proofs.targets.drivers_sum.Given as goal

abbrev pub invariant-loop-driver : goal.invariant-loop-driver
invariant-loop-driver l = l.sum ≡ drivers_sum (take l.driver-index l.drivers)
