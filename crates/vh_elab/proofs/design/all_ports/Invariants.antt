use Rattle.std.proofs.Common.{◌≡◌, take}
use Rattle.vh_elab.proofs.design.all_ports.Given as goal

abbrev pub invariant-loop-module : goal.invariant-loop-module
invariant-loop-module l = l.ports.items ≡ take l.module-index l.modules
